-- The key holder: document 01, "Key stages". A holder holds one stage of a key and steps it forward and back (the paper's cyclic key
-- schedule, computed on the fly). Its record, declared in src/, has the key's length, the stage's number and 24 bytes.
use Rattle.std.specs.Prelude.{Bool, ◌&&◌, List, ℕ, ◌+◌, ltb, length, drop, replicate}
use Rattle.byte_slices.specs.Slices.{all_zero}
use Rattle.sizes.specs.Sizes.{key_length, t_of, turn}
use Rattle.stages.specs.Columns.{padded}
use Rattle.stages.specs.Stages.{stage, stage_after, stage_before}
use Rattle.cycle.specs.Cycle.{following, preceding}
use Rattle.holder.specs.declared.Holder.{Holder}
use Rattle.holder.specs.declared.Way.{Way}
use Rattle.holder.specs.declared.Way.TheVariants.{Forward, Back}

-- a holder of a key length, a stage number and bytes
abbrev pub holding : ℕ → ℕ → List ℕ → Holder
holding l n b = record { length = l; number = n; bytes = b }

-- the t of a holder's key length
abbrev pub t_held : Holder → ℕ
t_held h = t_of h.length

-- a holder that is not refused with 24: a right key length, a number below the turn, and zeros past the key
unfoldable pub whole : Holder → Bool
whole h = key_length h.length && (ltb h.number (turn (t_held h)) && all_zero (drop h.length h.bytes))

-- the holder of a key at its stage n
abbrev pub holder_at : List ℕ → ℕ → Holder
holder_at key n = holding (length key) n (padded (stage (t_of (length key)) key n))

-- what stands in the holder's place where a call that makes one refuses. Every call on it is refused with 24
unfoldable pub blank : Holder
blank = holding 0 0 (replicate 24 0)

-- ---- steps
-- a step forward from stage s is step s + 1; that from 6t - 1 to 0 is step 6t, whose constant is the closing sum
unfoldable pub onward : Holder → Holder
onward h = holding h.length (following (t_held h) h.number) (padded (stage_after (t_held h) (h.number + 1) h.bytes))

-- a step back undoes the step that leads to where it starts
unfoldable pub backward : Holder → Holder
backward h =
    let before = preceding (t_held h) h.number in
    holding h.length before (padded (stage_before (t_held h) (before + 1) h.bytes))

unfoldable pub stepped : Way → Holder → Holder
stepped Forward h = onward h
stepped Back h = backward h

-- A roll with another entry for a contractor: that entry, those of others, and counts that do not fall.
use mathlib.Core.Path.{◌≡◌, refl, sym, ap, ◌∙◌}
use mathlib.Core.Bool.{Bool, true, false}
use mathlib.Core.List.{List, [], ◌∷◌}
use Prim.Native.Nat.{ℕ, zero, suc, ◌-◌, ◌≤◌}
use native.Mathlib.Omega.{arith}
use lib.ListN.{length, get_or, set}
use lib.Seq.{get_or-set_same, get_or-set_other, set-get_or}
use Rattle.roll.specs.declared.Roll.{Roll}
use Rattle.roll.specs.declared.Entry.{Entry}
use Rattle.roll.specs.Roll.{is_contractor, count_of, entry_of, with_entry}
use Rattle.roll.proofs.Contractors.{a_contractor, count-is, figure_is, nobody}

module _ (roll : Roll) (c : ℕ) (hc : is_contractor c ≡ true) (entry : Entry) where
  -- the entry itself
  pub entry-own : length roll.counts ≡ 200 → length roll.rights ≡ 200 → entry_of (with_entry roll c entry) c ≡ entry
  unfolding with_entry
  entry-own l m i =
      let a = a_contractor c hc in
      let counts = roll.counts in
      let rights = roll.rights in
      record {
        count = (count-is (with_entry roll c entry) c hc
            ∙ get_or-set_same counts (c - 1) entry.count 0 (omega (arith, a.least, a.most, l))) i;
        figure = (figure_is (with_entry roll c entry) c hc
            ∙ get_or-set_same rights (c - 1) entry.figure 0 (omega (arith, a.least, a.most, m))) i;
      }

  -- another contractor's
  pub entry_other : (d : ℕ) → (d ≡ c → ⊥) → entry_of (with_entry roll c entry) d ≡ entry_of roll d
  unfolding with_entry
  entry_other d n = by (is_contractor d) refl
    where
      by : (b : Bool) → is_contractor d ≡ b → entry_of (with_entry roll c entry) d ≡ entry_of roll d
      by true e = λ i.
          let a = a_contractor c hc in
          let b = a_contractor d e in
          let apart : d - 1 ≡ c - 1 → ⊥ = λ z. n (omega (arith, z, a.least, b.least)) in
          record {
            count = (count-is (with_entry roll c entry) d e ∙ get_or-set_other roll.counts (c - 1) (d - 1) entry.count 0 apart
                ∙ sym (count-is roll d e)) i;
            figure = (figure_is (with_entry roll c entry) d e ∙ get_or-set_other roll.rights (c - 1) (d - 1) entry.figure 0 apart
                ∙ sym (figure_is roll d e)) i;
          }
      by false e = nobody (with_entry roll c entry) d e ∙ sym (nobody roll d e)

  -- the counts, where the entry has the one that stood there
  pub counts_kept : entry.count ≡ count_of roll c → (with_entry roll c entry).counts ≡ roll.counts
  unfolding with_entry
  counts_kept e = ap (set roll.counts (c - 1)) (e ∙ count-is roll c hc) ∙ set-get_or roll.counts (c - 1) 0

-- a greater number at a place of a list
raise_grows : (xs : List ℕ) (i j v : ℕ) → get_or xs i 0 ≤ v → get_or xs j 0 ≤ get_or (set xs i v) j 0
raise_grows [] i j v h = omega arith
raise_grows (x ∷ xs) zero zero v h = omega arith
raise_grows (x ∷ xs) zero (suc j) v h = omega arith
raise_grows (x ∷ xs) (suc i) zero v h = omega arith
raise_grows (x ∷ xs) (suc i) (suc j) v h = raise_grows xs i j v h

-- no count falls where the entry's is not below the one that stood there, whatever the length of the roll
pub entry_grows : (roll : Roll) (c : ℕ) → is_contractor c ≡ true → (entry : Entry) → count_of roll c ≤ entry.count
    → (d : ℕ) → count_of roll d ≤ count_of (with_entry roll c entry) d
unfolding with_entry
entry_grows roll c hc entry h d = by (is_contractor d) refl
  where
    by : (b : Bool) → is_contractor d ≡ b → count_of roll d ≤ count_of (with_entry roll c entry) d
    by true e =
        let g = raise_grows roll.counts (c - 1) (d - 1) entry.count (omega (arith, count-is roll c hc)) in
        omega (arith, g, count-is roll d e, count-is (with_entry roll c entry) d e)
    by false e = omega (arith, ap (λ (x : Entry). x.count) (nobody roll d e))

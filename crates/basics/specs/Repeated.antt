-- A function applied over and over.
use Rattle.std.specs.Prelude.{ℕ, zero, suc}

-- f, m times over
abbrev pub repeated {ℓ} : {A : Type ℓ} → ℕ → (A → A) → A → A
repeated zero f x = x
repeated (suc m) f x = f (repeated m f x)

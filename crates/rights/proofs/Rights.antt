-- Rights: the two of them and their numbers, what the tests of a right say, what a right covers, and what is not above the highest.
use mathlib.Core.Path.{◌≡◌, refl, ap}
use mathlib.Core.Logic.{◌⊎◌, inl, inr}
use mathlib.Core.Bool.{true, false}
use Prim.Native.Nat.{ℕ, ◌≤◌, ◌<◌}
use native.Mathlib.Omega.{arith}
use Rattle.std.proofs.lemmas.Bool.Decides.{nat_tests}
use Rattle.rights.specs.declared.Right.{Right}
use Rattle.rights.specs.declared.Right.TheVariants.{Reading, Overwriting}
use Rattle.rights.specs.Rights.{right_number, is_right, covers, highest, within_highest}

-- ---- the two rights and their numbers
pub right_numbered : (r : Right) → (1 ≤ right_number r) × (right_number r ≤ 2)
right_numbered Reading = (omega arith, omega arith)
right_numbered Overwriting = (omega arith, omega arith)

pub right_tells : (a b : Right) → right_number a ≡ right_number b → a ≡ b
right_tells Reading Reading e = refl
right_tells Overwriting Overwriting e = refl
right_tells Reading Overwriting e = let z : ⊥ = omega (arith, e) in absurd z
right_tells Overwriting Reading e = let z : ⊥ = omega (arith, e) in absurd z

-- ---- numbers that are a right's
pub one_or_two : (r : ℕ) → is_right r ≡ true → (r ≡ 1) ⊎ (r ≡ 2)
one_or_two r e = grind (arith, nat_tests)

pub is_right_lem : (r : ℕ) → (r ≡ 1) ⊎ (r ≡ 2) → is_right r ≡ true
is_right_lem r h = elim h [ inl e ↦ ap is_right e | inr e ↦ ap is_right e ]

pub right-small : (r : ℕ) → is_right r ≡ true → r < 3
right-small r e = grind (arith, nat_tests)

pub right-least : (r : ℕ) → is_right r ≡ true → 1 ≤ r
right-least r e = grind (arith, nat_tests)

-- ---- what a right covers
-- reading is covered by both
pub covers_reading : (granted : ℕ) → is_right granted ≡ true → covers granted 1 ≡ true
unfolding covers
covers_reading granted e = grind (arith, nat_tests)

-- overwriting by overwriting alone
pub covers_overwriting : (granted : ℕ) → covers granted 2 ≡ true → granted ≡ 2
unfolding covers
covers_overwriting granted e = grind (arith, nat_tests)

pub covers_itself : (r : ℕ) → is_right r ≡ true → covers r r ≡ true
unfolding covers
covers_itself r e = grind (arith, nat_tests)

-- only a right is covered
pub covered-right : (granted asked : ℕ) → covers granted asked ≡ true → is_right asked ≡ true
unfolding covers
covered-right granted asked e = grind (arith, nat_tests)

-- and only a right covers
pub covering_right : (granted asked : ℕ) → covers granted asked ≡ true → is_right granted ≡ true
unfolding covers
covering_right granted asked e = grind (arith, nat_tests)

-- a right that is not covered by another is overwriting, and the other is reading
pub not_covered : (granted asked : ℕ) → is_right granted ≡ true → is_right asked ≡ true → covers granted asked ≡ false
    → (granted ≡ 1) × (asked ≡ 2)
unfolding covers
not_covered granted asked g a e = (grind (arith, nat_tests), grind (arith, nat_tests))

-- ---- the highest right
-- reading is above no highest right
pub within_reading : (figure : ℕ) → within_highest 1 figure ≡ true
unfolding within_highest highest
within_reading figure = grind (arith, nat_tests)

-- and no right is above overwriting
pub within_two : (r : ℕ) → is_right r ≡ true → within_highest r 2 ≡ true
unfolding within_highest highest
within_two r e = grind (arith, nat_tests)

-- overwriting is above it unless the figure is 2
pub within_overwriting : (figure : ℕ) → within_highest 2 figure ≡ true → figure ≡ 2
unfolding within_highest highest
within_overwriting figure e = grind (arith, nat_tests)

-- a right that is above the highest is overwriting, and the figure is none that stands for it
pub above-highest : (asked figure : ℕ) → is_right asked ≡ true → within_highest asked figure ≡ false → (asked ≡ 2) × (figure ≡ 2 → ⊥)
unfolding within_highest highest
above-highest asked figure q e = (grind (arith, nat_tests), λ f. grind (arith, nat_tests))

-- a right that a right within the highest covers is within it
pub covered-within : (granted asked figure : ℕ) → covers granted asked ≡ true → within_highest granted figure ≡ true
    → within_highest asked figure ≡ true
unfolding covers within_highest highest
covered-within granted asked figure c w = grind (arith, nat_tests)

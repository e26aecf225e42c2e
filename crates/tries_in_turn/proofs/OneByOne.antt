-- Tries one after the other, each going on from the answer so far: the last answer is `first` of the whole list. And what a call shows at its two
-- returns: refused, with every lent byte as it was, and done, with every test passed.
use mathlib.Core.Path.{◌≡◌, refl, sym, ap, ap₂, ◌∙◌, subst}
use mathlib.Core.Bool.{Bool, true, false, ◌&&◌, false≢true}
use mathlib.Core.List.{List, [], ◌∷◌, ◌++◌}
use Prim.Native.Nat.{ℕ, zero, suc, ◌<◌}
use native.Mathlib.Omega.{arith}
use lib.Dec.{ltb}
use lib.ListN.{length, drop}
use borrow.Author.Tests.{lt-ltb}
use Rattle.basics.proofs.Tests.{and_second}
use Rattle.refusal.specs.Tries.{Try, ◌unless◌, first, NoneHolds, written, answered}
use Rattle.refusal.proofs.Tries.{first_passes, first_holds, none-given, none-holds, first-before, first_then}
use Rattle.refusal.proofs.Answers.{kept, put, answer-refused, answer-done}
use Rattle.refusal.proofs.Ladder.{numbered, a_numbered, all_pass}
use Rattle.tries_in_turn.specs.InTurn.{after, is_refused}

-- ---- one more segment
pub after_zero : (n : ℕ) (ts : List Try) → n ≡ 0 → after n ts ≡ first ts
unfolding after
after_zero n ts e = ap (λ (k : ℕ). after k ts) e

pub after-stays : (n : ℕ) (ts : List Try) → 0 < n → after n ts ≡ n
unfolding after
after-stays zero ts h = let z : ⊥ = omega arith in absurd z
after-stays (suc n) ts h = refl

-- one try more: it passes, or it holds where nothing held before
pub try_passes : (n : ℕ) (t : Try) → t.passes ≡ true → n ≡ after n (t ∷ [])
unfolding after
try_passes zero t e = sym (first_passes t [] e ∙ none-given [] tt)
try_passes (suc n) t e = refl

pub try_holds : (n : ℕ) (t : Try) → t.passes ≡ false → n ≡ 0 → t.number ≡ after n (t ∷ [])
try_holds n t e z = sym (after_zero n (t ∷ []) z ∙ first_holds t [] e)

-- tries that go on from the first of a list are those of the whole list
pub onward : (xs ys : List Try) → numbered xs ≡ true → after (first xs) ys ≡ first (xs ++ ys)
onward xs ys e = by (first xs) refl
  where
    by : (n : ℕ) → first xs ≡ n → after (first xs) ys ≡ first (xs ++ ys)
    by zero z = after_zero (first xs) ys z ∙ sym (first_then xs ys (none-holds xs (a_numbered xs e) z))
    by (suc n) z =
        let p : 0 < first xs = omega (arith, z) in
        after-stays (first xs) ys p ∙ sym (first-before xs ys (first xs) p refl)

-- ---- tries one by one: how the code climbs a list, from a number
abbrev pub climb : ℕ → List Try → ℕ
climb n [] = n
climb n (t ∷ ts) = climb (after n (t ∷ [])) ts

one_more : (n : ℕ) (t : Try) (ts : List Try) → 0 < t.number → after (after n (t ∷ [])) ts ≡ after n (t ∷ ts)
unfolding after
one_more zero t ts h = onward (t ∷ []) ts (ap (λ (b : Bool). b && true) (lt-ltb 0 t.number h))
one_more (suc n) t ts h = refl

-- that is what the list gives
pub climbs : (n : ℕ) (ts : List Try) → numbered ts ≡ true → climb n ts ≡ after n ts
unfolding after
climbs zero [] e = sym (none-given [] tt)
climbs (suc n) [] e = refl
climbs n (t ∷ ts) e = let h = a_numbered (t ∷ ts) e in climbs (after n (t ∷ [])) ts (and_second (ltb 0 t.number) (numbered ts) e)
    ∙ one_more n t ts h.0

pub climbs_first : (ts : List Try) → numbered ts ≡ true → climb 0 ts ≡ first ts
unfolding after
climbs_first ts e = climbs 0 ts e

-- one try of the code: the answer before it and the test, each as its definition says
pub one_try : (r b b' n : ℕ) (p q : Bool) → r ≡ after b ((n unless p) ∷ []) → b ≡ b' → p ≡ q → r ≡ after b' ((n unless q) ∷ [])
one_try r b b' n p q e eb ep = e ∙ ap₂ (λ (k : ℕ) (x : Bool). after k ((n unless x) ∷ [])) eb ep

-- a segment of the code after a list
pub then : (r b : ℕ) (xs ys : List Try) → numbered xs ≡ true → b ≡ first xs → r ≡ after b ys → r ≡ first (xs ++ ys)
then r b xs ys n eb e = e ∙ ap (λ (k : ℕ). after k ys) eb ∙ onward xs ys n

-- ---- refused or done
pub refused_positive : (n : ℕ) → 0 < n → is_refused n ≡ true
unfolding is_refused
refused_positive zero h = let z : ⊥ = omega arith in absurd z
refused_positive (suc n) h = refl

pub positive_refused : (n : ℕ) → is_refused n ≡ true → 0 < n
unfolding is_refused
positive_refused zero e = absurd (false≢true e)
positive_refused (suc n) e = omega arith

pub zero_done : (n : ℕ) → is_refused n ≡ false → n ≡ 0
unfolding is_refused
zero_done zero e = refl
zero_done (suc n) e = absurd (false≢true (sym e))

-- what a call shows at its refused return, and at the other, where r is the number of its tries and b the test of it
module _ (r : ℕ) (ts : List Try) (e : r ≡ first ts) (b : Bool) (eb : b ≡ is_refused r) where
  pub refused : b ≡ true → 0 < first ts
  refused h = subst (λ (n : ℕ). 0 < n) e (positive_refused r (sym eb ∙ h))

  pub done : b ≡ false → first ts ≡ 0
  done h = sym e ∙ zero_done r (sym eb ∙ h)

  pub all_passed : numbered ts ≡ true → b ≡ false → NoneHolds ts
  all_passed n h = all_pass ts n (done h)

  pub returns_refused : (bytes out : List ℕ) → b ≡ true → (r ≡ first ts) × (out ≡ written (first ts) bytes out)
  returns_refused bytes out h = (e, kept (first ts) bytes out (refused h))

  pub returns_done : (bytes out : List ℕ) → b ≡ false → (0 ≡ first ts) × (bytes ++ drop (length bytes) out ≡ written (first ts) bytes out)
  returns_done bytes out h = (sym (done h), put (first ts) bytes out (done h))

  -- and of a value that it answers with
  pub answers-refused : {A : Type 0} (done refused : A) → b ≡ true → refused ≡ answered (first ts) done refused
  answers-refused made kept h = answer-refused ts (first ts) made kept (refused h) refl

  pub answers-done : {A : Type 0} (done refused : A) → b ≡ false → done ≡ answered (first ts) done refused
  answers-done made kept h = answer-done ts made kept (done h)

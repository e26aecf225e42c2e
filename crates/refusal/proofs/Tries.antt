-- The laws of trying reasons in order.
use mathlib.Core.Path.{◌≡◌, refl, sym, ap, ◌∙◌, subst}
use mathlib.Core.Bool.{Bool, true, false, cond}
use mathlib.Core.List.{List, [], ◌∷◌, ◌++◌}
use Prim.Native.Nat.{ℕ, ◌<◌}
use native.Mathlib.Omega.{arith}
use Rattle.refusal.specs.Tries.{Try, first, NoneHolds}
use Rattle.refusal.specs.Claims.{Numbered, FirstOf}

-- a try that passes is passed over; one that does not gives its number
pub first_passes : (t : Try) (ts : List Try) → t.passes ≡ true → first (t ∷ ts) ≡ first ts
unfolding first
first_passes t ts e = ap (λ (b : Bool). cond b (first ts) t.number) e

pub first_holds : (t : Try) (ts : List Try) → t.passes ≡ false → first (t ∷ ts) ≡ t.number
unfolding first
first_holds t ts e = ap (λ (b : Bool). cond b (first ts) t.number) e

pub none-given : (ts : List Try) → NoneHolds ts → first ts ≡ 0
unfolding first
none-given [] h = refl
none-given (t ∷ ts) h = first_passes t ts h.0 ∙ none-given ts h.1

pub none-holds : (ts : List Try) → Numbered ts → first ts ≡ 0 → NoneHolds ts
none-holds [] n e = tt
none-holds (t ∷ ts) n e = by t.passes refl (λ e. none-holds ts n.1 e)
  where
    by : (b : Bool) → t.passes ≡ b → (first ts ≡ 0 → NoneHolds ts) → NoneHolds (t ∷ ts)
    by true p more = (p, more (sym (first_passes t ts p) ∙ e))
    by false p more = let z : ⊥ = omega (arith, sym (first_holds t ts p) ∙ e, n.0) in absurd z

-- tries appended: the first list's number where it gives one, else the second's
pub first-before : (xs ys : List Try) (n : ℕ) → 0 < n → first xs ≡ n → first (xs ++ ys) ≡ n
unfolding first
first-before [] ys n h e = let z : ⊥ = omega arith in absurd z
first-before (x ∷ xs) ys n h e = by x.passes e (first-before xs ys n h)
  where
    by : (b : Bool) → cond b (first xs) x.number ≡ n → (first xs ≡ n → first (xs ++ ys) ≡ n) → cond b (first (xs ++ ys)) x.number ≡ n
    by true e more = more e
    by false e more = e

pub first_then : (xs ys : List Try) → NoneHolds xs → first (xs ++ ys) ≡ first ys
first_then [] ys h = refl
first_then (x ∷ xs) ys h = first_passes x (xs ++ ys) h.0 ∙ first_then xs ys h.1

pub first_of : (ts : List Try) → 0 < first ts → FirstOf ts
unfolding first
first_of [] h = let z : ⊥ = omega arith in absurd z
first_of (t ∷ ts) h = by t.passes refl (λ l. first_of ts l)
  where
    by : (b : Bool) → t.passes ≡ b → (0 < first ts → FirstOf ts) → FirstOf (t ∷ ts)
    by false p more = record { before = []; own = t; after = ts; split = refl; passed = tt; holds = p; given = sym (first_holds t ts p) }
    by true p more =
        let e = first_passes t ts p in
        let g = more (subst (λ (n : ℕ). 0 < n) e h) in
        record {
          before = t ∷ g.before;
          own = g.own;
          after = g.after;
          split = ap {B = List Try} (λ l. t ∷ l) g.split;
          passed = (p, g.passed);
          holds = g.holds;
          given = g.given ∙ sym e;
        }

-- What a call has to show at each return: its number is the first that holds, and the output is as `written` says, or what it answers
-- with as `answered` says.
use mathlib.Core.Path.{◌≡◌, refl, sym, ap, ◌∙◌}
use mathlib.Core.Bool.{Bool, true, false, cond}
use mathlib.Core.List.{List, ◌++◌, append-nil}
use Prim.Native.Nat.{ℕ, ◌≤◌, ◌<◌}
use native.Mathlib.Omega.{arith}
use lib.Dec.{eqb}
use lib.ListN.{length, get_or, take, drop, length-append, length-drop, drop_of_length-le, get_or-append}
use lib.Seq.{take_at, drop_at}
use borrow.Author.Tests.{eq-eqb, ne_eqb, eqb-true}
use Rattle.refusal.specs.Tries.{Try, first, written, answered}

-- a refusal changes no byte
pub kept : (n : ℕ) (bytes out : List ℕ) → 0 < n → out ≡ written n bytes out
unfolding written
kept n bytes out h = sym (ap (λ (b : Bool). cond b (bytes ++ drop (length bytes) out) out) (ne_eqb n 0 (λ e. omega arith)))

-- the work done
pub put : (n : ℕ) (bytes out : List ℕ) → n ≡ 0 → bytes ++ drop (length bytes) out ≡ written n bytes out
unfolding written
put n bytes out e = sym (ap (λ (b : Bool). cond b (bytes ++ drop (length bytes) out) out) (eq-eqb n 0 e))

-- where the bytes fill the output, nothing stands after them
pub put_all : (n : ℕ) (bytes out : List ℕ) → n ≡ 0 → length out ≤ length bytes → bytes ≡ written n bytes out
put_all n bytes out e h =
    sym (append-nil bytes) ∙ ap (λ (x : List ℕ). bytes ++ x) (sym (drop_of_length-le out {i = length bytes} h)) ∙ put n bytes out e

-- an output of a call that did not refuse starts with the bytes
pub starts : (n : ℕ) (bytes out : List ℕ) → n ≡ 0
    → (length bytes ≤ length (written n bytes out)) × (take (length bytes) (written n bytes out) ≡ bytes)
starts n bytes out e =
    let w = put n bytes out e in (
      omega (arith, length-append bytes (drop (length bytes) out), ap length w),
      ap (take (length bytes)) (sym w) ∙ take_at bytes (drop (length bytes) out) (length bytes) refl,
    )

-- each byte of it, and what stands after them
module _ (n : ℕ) (bytes out : List ℕ) (e : n ≡ 0) where
  pub put_each : (i : ℕ) → i < length bytes → get_or (written n bytes out) i 0 ≡ get_or bytes i 0
  put_each i h = ap (λ (l : List ℕ). get_or l i 0) (sym (put n bytes out e)) ∙ get_or-append bytes (drop (length bytes) out) 0 i h

  pub put_same : length bytes ≤ length out → length (written n bytes out) ≡ length out
  put_same h =
      let m = length bytes in
      ap length (sym (put n bytes out e)) ∙ omega (arith, length-append bytes (drop m out), length-drop m out)

  pub put_rest : (k : ℕ) → length bytes ≡ k → drop k (written n bytes out) ≡ drop k out
  put_rest k l = ap (drop k) (sym (put n bytes out e)) ∙ drop_at bytes (drop (length bytes) out) k l ∙ ap (λ (m : ℕ). drop m out) l

-- a refusal with the number n
pub refuses : (ts : List Try) (n : ℕ) (bytes out : List ℕ) → 0 < n → first ts ≡ n → (n ≡ first ts) × (out ≡ written (first ts) bytes out)
refuses ts n bytes out h e = (sym e, kept n bytes out h ∙ ap (λ (m : ℕ). written m bytes out) (sym e))

-- ---- calls by value
pub not_answered : {A : Type 0} (n : ℕ) (done refused : A) → 0 < n → refused ≡ answered n done refused
unfolding answered
not_answered n done refused h = sym (ap (λ (b : Bool). cond b done refused) (ne_eqb n 0 (λ e. omega arith)))

pub is-answered : {A : Type 0} (n : ℕ) (done refused : A) → n ≡ 0 → done ≡ answered n done refused
unfolding answered
is-answered n done refused e = sym (ap (λ (b : Bool). cond b done refused) (eq-eqb n 0 e))

-- of a list of tries
pub answer-refused : {A : Type 0} (ts : List Try) (n : ℕ) (done refused : A) → 0 < n → first ts ≡ n → refused ≡ answered (first ts) done refused
answer-refused ts n done refused h e = not_answered (first ts) done refused (omega (arith, h, e))

pub answer-done : {A : Type 0} (ts : List Try) (done refused : A) → first ts ≡ 0 → done ≡ answered (first ts) done refused
answer-done ts done refused e = is-answered (first ts) done refused e

-- what holds of what a call makes where it does not refuse, and of what is said for a refusal, holds of the answer
pub answer_either : {A : Type 0} (P : A → Type 0) (n : ℕ) (done refused : A) → (n ≡ 0 → P done) → P refused → P (answered n done refused)
unfolding answered
answer_either P n done refused f r = by (eqb n 0) refl
  where
    by : (b : Bool) → eqb n 0 ≡ b → P (cond b done refused)
    by true e = f (eqb-true n 0 e)
    by false e = r

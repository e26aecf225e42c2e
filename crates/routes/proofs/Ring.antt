-- Stage numbers around the ring: where m steps lead, and that the shorter way leads there.
use mathlib.Core.Path.{◌≡◌, refl, sym, ap, ap₂, ◌∙◌}
use mathlib.Core.Logic.{inl, inr}
use Prim.Native.Nat.{ℕ, zero, suc, ◌+◌, ◌-◌, ◌*◌, ◌%◌, ◌≤◌, ◌<◌}
use native.Mathlib.Nat.{mod-lt, mod-eq_of_lt, mod-add-mod, add-mod-mod, add-mod_right, add-zero, mod-le}
use native.Mathlib.Omega.{arith}
use Rattle.basics.proofs.Tests.{below_or_not}
use Rattle.sizes.specs.Sizes.{turn}
use Rattle.basics.specs.Repeated.{repeated}
use Rattle.cycle.specs.Cycle.{following, preceding}
use Rattle.cycle.proofs.Numbers.{following-is, following-below, preceding-below, back_on, on_back}
use Rattle.holder.specs.declared.Way.{Way}
use Rattle.holder.specs.declared.Way.TheVariants.{Forward, Back}
use Rattle.holder_walk.specs.Walk.{steps_forward, ring_distance, way_to}
use Rattle.holder_walk.proofs.Walks.{ring_forward, ring_back, ring_most}
use Rattle.routes.specs.Claims.{Shortest}

-- the number after a step
unfoldable pub number_to : ℕ → Way → ℕ → ℕ
number_to t Forward s = following t s
number_to t Back s = preceding t s

pub number-below : (t : ℕ) (way : Way) (s : ℕ) → s < turn t → number_to t way s < turn t
unfolding number_to
number-below t Forward s h = following-below t s h
number-below t Back s h = preceding-below t s h

pub numbers_below : (t : ℕ) (way : Way) (m s : ℕ) → s < turn t → repeated m (number_to t way) s < turn t
numbers_below t way zero s h = h
numbers_below t way (suc m) s h = number-below t way _ (numbers_below t way m s h)

-- ---- m steps
ahead : (t m s : ℕ) → s < turn t → repeated m (following t) s ≡ (s + m) % turn t
ahead t zero s h = sym (ap (λ (x : ℕ). x % turn t) (add-zero s) ∙ mod-eq_of_lt h)
ahead t (suc m) s h =
    let e : s + m + 1 ≡ s + suc m = omega arith in
    let b : (s + m) % turn t < turn t = mod-lt (s + m) (omega arith) in
    ap (following t) (ahead t m s h) ∙ following-is t ((s + m) % turn t) b ∙ mod-add-mod (s + m) (turn t) 1 ∙ ap (λ (x : ℕ). x % turn t) e

-- one step more at the start instead of the end
inside : {A : Type 0} (f : A → A) (m : ℕ) (x : A) → repeated m f (f x) ≡ f (repeated m f x)
inside f zero x = refl
inside f (suc m) x = ap f (inside f m x)

on_below : (t m s : ℕ) → s < turn t → repeated m (following t) s < turn t
unfolding number_to
on_below t m s h = numbers_below t Forward m s h

back_below : (t m s : ℕ) → s < turn t → repeated m (preceding t) s < turn t
unfolding number_to
back_below t m s h = numbers_below t Back m s h

-- m steps forward and m steps back
undone : (t m s : ℕ) → s < turn t → repeated m (preceding t) (repeated m (following t) s) ≡ s
undone t zero s h = refl
undone t (suc m) s h =
    sym (inside (preceding t) m (following t (repeated m (following t) s)))
    ∙ ap (repeated m (preceding t)) (back_on t (repeated m (following t) s) (on_below t m s h)) ∙ undone t m s h

redone : (t m s : ℕ) → s < turn t → repeated m (following t) (repeated m (preceding t) s) ≡ s
redone t zero s h = refl
redone t (suc m) s h =
    sym (inside (following t) m (preceding t (repeated m (preceding t) s)))
    ∙ ap (repeated m (following t)) (on_back t (repeated m (preceding t) s) (back_below t m s h)) ∙ redone t m s h

-- ---- the steps forward from s to d
up : (t s d : ℕ) → s ≤ d → d < turn t → steps_forward t s d ≡ d - s
up t s d l h =
    let e : d + (turn t - s) ≡ d - s + turn t = omega arith in
    ap (λ (x : ℕ). x % turn t) e ∙ add-mod_right (d - s) (turn t) ∙ mod-eq_of_lt (omega arith)

down : (t s d : ℕ) → d < s → s < turn t → steps_forward t s d ≡ d + (turn t - s)
down t s d l h = mod-eq_of_lt (omega arith)

-- lead to d, and as many as are wanting to the turn lead from d to s
there : (t s d : ℕ) → s < turn t → d < turn t → repeated (steps_forward t s d) (following t) s ≡ d
there t s d hs hd =
    let e : s + (d + (turn t - s)) ≡ d + turn t = omega arith in
    ahead t (steps_forward t s d) s hs ∙ add-mod-mod s (d + (turn t - s)) (turn t)
    ∙ ap (λ (x : ℕ). x % turn t) e ∙ add-mod_right d (turn t) ∙ mod-eq_of_lt hd

here : (t s d : ℕ) → s < turn t → d < turn t → repeated (turn t - steps_forward t s d) (following t) d ≡ s
here t s d hs hd = ahead t (turn t - steps_forward t s d) d hd ∙ elim (below_or_not d s) [
  | inl l ↦
      let e : d + (turn t - steps_forward t s d) ≡ s = omega (arith, down t s d l hs) in
      ap (λ (x : ℕ). x % turn t) e ∙ mod-eq_of_lt hs
  | inr l ↦
      let e : d + (turn t - steps_forward t s d) ≡ s + turn t = omega (arith, up t s d l hd) in
      ap (λ (x : ℕ). x % turn t) e ∙ add-mod_right s (turn t) ∙ mod-eq_of_lt hs
]

-- ---- a walk arrives
pub arrives : (t s d : ℕ) → s < turn t → d < turn t → repeated (ring_distance t s d) (number_to t (way_to t s d)) s ≡ d
unfolding number_to
arrives t s d hs hd = elim (below_or_not (3 * t) (steps_forward t s d)) [
  | inl l ↦
      let r = ring_back t s d l in
      ap₂ (λ (m : ℕ) (w : Way). repeated m (number_to t w) s) r.0 r.1
      ∙ ap (repeated (turn t - steps_forward t s d) (preceding t)) (sym (here t s d hs hd))
      ∙ undone t (turn t - steps_forward t s d) d hd
  | inr l ↦
      let r = ring_forward t s d l in
      ap₂ (λ (m : ℕ) (w : Way). repeated m (number_to t w) s) r.0 r.1 ∙ there t s d hs hd
]

-- ---- a full turn
around : (t s : ℕ) → s < turn t → repeated (turn t) (following t) s ≡ s
around t s h = ahead t (turn t) s h ∙ add-mod_right s (turn t) ∙ mod-eq_of_lt h

pub full_turn : (t : ℕ) (way : Way) (s : ℕ) → s < turn t → repeated (turn t) (number_to t way) s ≡ s
unfolding number_to
full_turn t Forward s h = around t s h
full_turn t Back s h = ap (repeated (turn t) (preceding t)) (sym (around t s h)) ∙ undone t (turn t) s h

-- ---- no way is shorter
forward_bound : (t s d : ℕ) → ring_distance t s d ≤ steps_forward t s d
forward_bound t s d = elim (below_or_not (3 * t) (steps_forward t s d)) [
  | inl l ↦ omega (arith, (ring_back t s d l).0)
  | inr l ↦ omega (arith, (ring_forward t s d l).0)
]

back_bound : (t s d : ℕ) → s < turn t → d < turn t → ring_distance t s d ≤ steps_forward t d s
back_bound t s d hs hd = elim (below_or_not (3 * t) (steps_forward t s d)) [
  | inl l ↦ elim (below_or_not d s) [
    | inl m ↦ omega (arith, (ring_back t s d l).0, down t s d m hs, up t d s (omega arith) hs)
    | inr m ↦ elim (below_or_not s d) [
      | inl n ↦ omega (arith, (ring_back t s d l).0, up t s d m hd, down t d s n hd)
      | inr n ↦ omega (arith, up t s d m hd)
    ]
  ]
  | inr l ↦ elim (below_or_not d s) [
    | inl m ↦ omega (arith, (ring_forward t s d l).0, down t s d m hs, up t d s (omega arith) hs)
    | inr m ↦ elim (below_or_not s d) [
      | inl n ↦ omega (arith, (ring_forward t s d l).0, up t s d m hd, down t d s n hd)
      | inr n ↦ omega (arith, (ring_forward t s d l).0, up t s d m hd)
    ]
  ]
]

-- m steps forward that lead from s to d are at least the steps forward
at_least : (t s d m : ℕ) → s < turn t → repeated m (following t) s ≡ d → steps_forward t s d ≤ m
at_least t s d m h e =
    let z : s + m + (turn t - s) ≡ m + turn t = omega arith in
    let f : steps_forward t s d ≡ m % turn t =
    ap (λ (x : ℕ). (x + (turn t - s)) % turn t) (sym e ∙ ahead t m s h) ∙ mod-add-mod (s + m) (turn t) (turn t - s)
    ∙ ap (λ (x : ℕ). x % turn t) z ∙ add-mod_right m (turn t) in
    omega (arith, f, mod-le m (turn t))

abbrev code : Way → ℕ
code Forward = 0
code Back = 1

longer : (t s d m : ℕ) → s < turn t → way_to t s d ≡ Back → repeated m (following t) s ≡ d → ring_distance t s d < m
longer t s d m hs ew e = elim (below_or_not (3 * t) (steps_forward t s d)) [
  | inl l ↦ omega (arith, (ring_back t s d l).0, at_least t s d m hs e)
  | inr l ↦ omega (arith, ap code (sym (ring_forward t s d l).1 ∙ ew))
]

led : (t s d : ℕ) (way : Way) → s < turn t → d < turn t → way_to t s d ≡ way → repeated (ring_distance t s d) (number_to t way) s ≡ d
led t s d way hs hd e = ap (λ (w : Way). repeated (ring_distance t s d) (number_to t w) s) (sym e) ∙ arrives t s d hs hd

led_forward : (t s d : ℕ) → s < turn t → d < turn t → way_to t s d ≡ Forward → repeated (ring_distance t s d) (following t) s ≡ d
unfolding number_to
led_forward t s d hs hd e = led t s d Forward hs hd e

led_back : (t s d : ℕ) → s < turn t → d < turn t → way_to t s d ≡ Back → repeated (ring_distance t s d) (preceding t) s ≡ d
unfolding number_to
led_back t s d hs hd e = led t s d Back hs hd e

pub shortest : (t s d : ℕ) → s < turn t → d < turn t → Shortest t s d
shortest t s d hs hd = record {
  most = ring_most t s d;
  forward = λ m e. omega (arith, forward_bound t s d, at_least t s d m hs e);
  back = λ m e. omega (arith, back_bound t s d hs hd, at_least t d s m hd (ap (repeated m (following t)) (sym e) ∙ redone t m s hs));
  arrives_forward = led_forward t s d hs hd;
  arrives_back = led_back t s d hs hd;
  forward_longer = λ ew m e. longer t s d m hs ew e;
}

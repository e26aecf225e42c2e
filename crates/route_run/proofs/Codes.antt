-- Bytes as calls, and what is logged of a call.
use mathlib.Core.Path.{◌≡◌, sym, ap}
use Prim.Native.Nat.{ℕ}
use borrow.Author.Tests.{ne_eqb}
use Rattle.holder.specs.declared.Holder.{Holder}
use Rattle.routes.specs.Routes.{Call, forward, back, subkey, walk, returned, answer}
use Rattle.route_run.specs.Log.{call_of, logged_of}

pub code_forward : (b : ℕ) → b ≡ 253 → call_of b ≡ forward
unfolding call_of
code_forward b e = ap call_of e

pub code-back : (b : ℕ) → b ≡ 254 → call_of b ≡ back
unfolding call_of
code-back b e = ap call_of e

pub code-subkey : (b : ℕ) → b ≡ 255 → call_of b ≡ subkey
unfolding call_of
code-subkey b e = ap call_of e

pub code-walk : (b : ℕ) → (b ≡ 253 → ⊥) → (b ≡ 254 → ⊥) → (b ≡ 255 → ⊥) → call_of b ≡ walk b
unfolding call_of
code-walk b f g h = rw (ne_eqb b 253 f, ne_eqb b 254 g, ne_eqb b 255 h)

pub logged_as : {c k : Call} (h : Holder) → c ≡ k → logged_of (answer k h) (returned k h) ≡ logged_of (answer c h) (returned c h)
logged_as h e = ap (λ (k : Call). logged_of (answer k h) (returned k h)) (sym e)

-- The check's number tells its verdict.
use mathlib.Core.Path.{◌≡◌, sym, ap}
use Prim.Native.Nat.{ℕ, ◌+◌, ◌*◌, ◌≤◌}
use native.Mathlib.Omega.{arith}
use Rattle.std.specs.Prelude.{Ok, Err}
use Rattle.refusal.specs.declared.Reason.{Reason}
use Rattle.refusal.specs.Reasons.{reason_number}
use Rattle.refusal.specs.Claims.{NumbersTellReasons}
use Rattle.refusal.proofs.Claims.{numbers_tell_reasons}
use Rattle.refusal.proofs.Reasons.{reason-most}
use Rattle.rights.specs.declared.Right.{Right}
use Rattle.rights.specs.Rights.{right_number}
use Rattle.rights.proofs.Rights.{right_numbered, right_tells}
use Rattle.call_claims.specs.Claims.{CodesTellVerdicts}

-- right and contractor from the number
parts_tell : (x y c d : ℕ) → 1 ≤ c → c ≤ 200 → 1 ≤ d → d ≤ 200 → 1000 * x + c ≡ 1000 * y + d → (x ≡ y) × (c ≡ d)
parts_tell x y c d p q r s e = (omega (arith, e), omega (arith, e))

opens-above : (a : Right) (c : ℕ) (r : Reason) → 1000 * right_number a + c ≡ reason_number r → ⊥
opens-above a c r e = omega (arith, e, (right_numbered a).0, reason-most r)

pub codes_tell_verdicts : CodesTellVerdicts
unfolding CodesTellVerdicts NumbersTellReasons
codes_tell_verdicts (Ok g) (Ok h) p q e =
    let t = parts_tell (right_number g.right) (right_number h.right) g.contractor h.contractor p.0 p.1 q.0 q.1 e in
    λ i. Ok record { contractor = t.1 i; right = right_tells g.right h.right t.0 i }
codes_tell_verdicts (Ok g) (Err s) p q e = absurd (opens-above g.right g.contractor s e)
codes_tell_verdicts (Err s) (Ok g) p q e = absurd (opens-above g.right g.contractor s (sym e))
codes_tell_verdicts (Err s) (Err u) p q e = ap Err (numbers_tell_reasons s u e)

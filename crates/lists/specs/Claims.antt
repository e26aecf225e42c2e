-- What is claimed of the call that prepares a list. The term of the type stands in proofs/Claims.antt.
use Rattle.std.specs.Prelude.{List, ℕ}
use Rattle.refusal.specs.Claims.{Ordered}
use Rattle.lists.specs.Lists.{prepare_tries}

-- each refusal has its reason, and the first in order is given
unfoldable pub PrepareInOrder : Type 0
PrepareInOrder = (key : List ℕ) (rounds : ℕ) (out : List ℕ) → Ordered (prepare_tries key rounds out)

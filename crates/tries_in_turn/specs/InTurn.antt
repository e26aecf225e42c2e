-- Tries that go on from the answer so far, as a call's lines do, each with its `?`: the numbers of such answers.
use Rattle.std.specs.Prelude.{Bool, true, false, List, ℕ, zero, suc}
use Rattle.refusal.specs.Tries.{Try, first}

-- tries that go on from a number: it stays where it is a refusal's, and else the first reason of the list that holds gives it
unfoldable pub after : ℕ → List Try → ℕ
after zero ts = first ts
after (suc n) ts = suc n

-- a number that is a refusal's
unfoldable pub is_refused : ℕ → Bool
is_refused zero = false
is_refused (suc n) = true

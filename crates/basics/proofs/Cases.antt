-- Proofs of computed cases, one after the other.

infixr 10 ◌&◌
pub ◌&◌ : {A B : Type 0} → A → B → A × B
◌&◌ a b = (a, b)

-- The state: document 01, "The layers"; paper 000, section 3. Four columns of three bytes.
use Rattle.std.specs.Prelude.{List, [], ◌∷◌, ℕ, ◌<◌, get_or}

-- the columns, each a list of its rows
abbrev pub State : Type 0
State = List (List ℕ)

-- the byte in row i, column j
abbrev pub at : State → ℕ → ℕ → ℕ
at a i j = get_or (get_or a j []) i 0

-- the column with f i in row i
abbrev pub column : (ℕ → ℕ) → List ℕ
column f = f 0 ∷ f 1 ∷ f 2 ∷ []

-- the state with f i j in row i, column j
abbrev pub build : (ℕ → ℕ → ℕ) → State
build f = column (λ i. f i 0) ∷ column (λ i. f i 1) ∷ column (λ i. f i 2) ∷ column (λ i. f i 3) ∷ []

-- a list is a state if it is `build f` for some f whose values are bytes (only rows below 3 and columns below 4 matter)
pub data IsState : State → Type 0 where
  built : (f : ℕ → ℕ → ℕ) → ((i j : ℕ) → f i j < 256) → IsState (build f)

-- The text of an answer: words, numbers and bytes one after the other.
use Rattle.std.specs.Prelude.{ℕ, ◌-◌, ◌≤◌, List, [], ◌∷◌, ◌++◌, length}
use Rattle.wire.specs.Front.{Put}
use Rattle.script_writing.specs.Shown.{fitted}

-- parts one after the other, each where it still fits
unfoldable pub fitted_all : List (List ℕ) → ℕ → List ℕ
fitted_all [] room = []
fitted_all (t ∷ ts) room = fitted t room ++ fitted_all ts (room - length (fitted t room))

-- what a writer of several parts promises
pub record WrittenAll (parts : List (List ℕ)) (r : ℕ) (old new : List ℕ) : Type 0 where
  pub put : Put (fitted_all parts (length old)) r old new
  pub within : r ≤ length old

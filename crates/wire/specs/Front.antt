-- A buffer after a write.
use Rattle.std.specs.Prelude.{ℕ, ◌≡◌, List, ◌++◌, length, take, drop}

-- xs with ys written over its front; later elements stay
unfoldable pub front : List ℕ → List ℕ → List ℕ
front ys xs = ys ++ drop (length ys) xs

-- xs with ys written over it from a place on
unfoldable pub front_at : ℕ → List ℕ → List ℕ → List ℕ
front_at at ys xs = take at xs ++ front ys (drop at xs)

-- what a writer promises: it wrote these over the output's front, and gives their count
pub record Put (ys : List ℕ) (n : ℕ) (old new : List ℕ) : Type 0 where
  pub count : n ≡ length ys
  pub output : new ≡ front ys old

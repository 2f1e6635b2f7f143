-- Closed hellos: what the definitions of the walk say of them. The contracts of `new`, `step` and `first` are equations with these, so a
-- program that answers one of them otherwise does not meet its own; the comments name such programs as ruled out. What `moved` does its
-- contract says outright. Assumes nothing.
use mathlib.Core.Path.{◌≡◌, refl}
use Prim.Native.Nat.{ℕ}
use mathlib.Core.List.{List, [], ◌∷◌, ◌++◌, map}
use Rattle.wire.specs.Numbers.{digits, number, number_on}
use Rattle.wire.specs.Vectors.{vector}
use Rattle.fingerprint_bodies.specs.Entries.{bind, taken, number_at, vector_at, whole, at_least, at_most}
use Rattle.fingerprint_bodies.specs.Forms.{words_in, even_words}
use Rattle.fingerprint_lists.specs.Arrays.{ext_type}
use Rattle.fingerprint.specs.Reader.{one_extension, after_suites, after_session, fields, read_body, read_fields}
use Rattle.fingerprint.proofs.Samples.{hello_of, hello_with, grouped}
use Rattle.std.specs.Prelude.{Ok, Err, None}
use Rattle.wire.specs.declared.refusals.Refusal.TheVariants as no
use Rattle.ext_walk.specs.Steps.{stands, step_at, first_extension}

-- groups from 47 to 55, and an extension whose body is not there
abbrev pub cut_late : List ℕ
cut_late = hello_with (grouped ++ (0x00 ∷ 0x17 ∷ 0x00 ∷ 0x01 ∷ []))

-- the first place of this hello, and of one that is refused for its length. Ruled out: a walk that begins at the hello's start; a refused
-- hello that has extensions
pub first-places : map first_extension (cut_late ∷ (0x01 ∷ 0x00 ∷ 0x00 ∷ 0x01 ∷ []) ∷ []) ≡ 47 ∷ 4 ∷ []
unfolding
    hello_of hello_with vector digits number number_on read_fields read_body whole vector_at number_at taken bind fields at_most after_session even_words words_in
    after_suites at_least first_extension
first-places = refl

-- steps at three places. Ruled out: a step that is not at the walk's place; a body with its header; a cut extension that is the end
pub reached : map (step_at cut_late) (47 ∷ 55 ∷ 59 ∷ []) ≡ stands (ext_type 0x000a) 51 55 ∷ Err no.ExtensionCut ∷ Ok None ∷ []
unfolding hello_of hello_with vector digits number number_on vector_at number_at taken bind one_extension step_at
reached = refl

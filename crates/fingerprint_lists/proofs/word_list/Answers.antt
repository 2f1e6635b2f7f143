use mathlib.Core.Path.{ap, ◌∙◌}
use mathlib.Core.List.{List}
use Prim.Native.Nat.{ℕ}
use lib.ListN.{drop}
use Rattle.fingerprint_bodies.specs.Code.{prefix_bytes}
use Rattle.fingerprint_bodies.specs.Forms.{words_in, word_list}
use Rattle.fingerprint_lists.specs.Arrays.{words_of}
use Rattle.fingerprint_lists.proofs.GoodLaws.{some_bytes, HoldsWords, words-after}
use Rattle.fingerprint_lists.proofs.word_list.Goals as goal
use Rattle.fingerprint_lists.proofs.word_list.Goals.{Start}

holds : (c : Start) → HoldsWords (drop (prefix_bytes c.args.prefix) c.args.body.now) (word_list (prefix_bytes c.args.prefix) c.args.body.now)
holds c = words-after (prefix_bytes c.args.prefix) c.args.body.now (some_bytes c.args.prefix) c.requires

pub words_in-requires : goal.words_in-requires
words_in-requires c = rw (c.after.ensures, c.bytes.ensures) (holds (goal.at.words_in-requires c).Start).few

pub returns : goal.returns
returns c = c.words_in.ensures ∙ ap (λ (l : List ℕ). words_of (words_in l)) (c.after.ensures ∙ ap (λ (n : ℕ). drop n c.args.body.now) c.bytes.ensures) ∙ ap words_of (holds (goal.at.returns c).Start).is

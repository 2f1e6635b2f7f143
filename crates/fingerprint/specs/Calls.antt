-- The calls beside the report (document 01, "Around them").
use Rattle.std.specs.Prelude.{ℕ, cond, List, [], ◌∷◌, leb}
use Rattle.std.proofs.Math.Option.{Option, none, some}
use Rattle.wire.specs.Answer.{Answer, result, refused}
use Rattle.fingerprint_lists.specs.Arrays.{Part}
use Rattle.fingerprint.specs.ClientHello.{ClientHello}
use Rattle.fingerprint.specs.Report.{report}

-- "it hands back the name's part of the hello, or the default where the hello is refused or nameless"
unfoldable pub bytes_or : List ℕ → Option Part → List ℕ
bytes_or default none = default
bytes_or default (some p) = p.bytes

unfoldable pub name_or : List ℕ → Answer ClientHello → List ℕ
name_or default (result v) = bytes_or default (report v).sni
name_or default (refused n) = default

-- a number put among numbers that rise: the smaller stays, the larger goes on
unfoldable pub insert : ℕ → List ℕ → List ℕ
insert t [] = t ∷ []
insert t (x ∷ xs) = cond (leb x t) (x ∷ insert t xs) (t ∷ insert x xs)

-- in rising order: each of the list in turn is put among those before it
unfoldable pub insert_all : List ℕ → List ℕ → List ℕ
insert_all done [] = done
insert_all done (t ∷ ts) = insert_all (insert t done) ts

unfoldable pub rising : List ℕ → List ℕ
rising l = insert_all [] l

-- "`extension_set` gives the types in rising order, none for a refused hello."
unfoldable pub extension_set : Answer ClientHello → List ℕ
extension_set (result v) = rising (report v).extensions
extension_set (refused n) = []

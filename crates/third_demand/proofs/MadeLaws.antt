-- What the maker's answer says of the hello: the reader reads it back, and the joiner has room for it. Assumes nothing.
use Prim.Native.Nat.{◌≤◌, ◌<◌}
use lib.ListN.{length}
use borrow.Author.Tests.{ltb-true, leb-true}
use Rattle.profiles.specs.Profile.{for_browser}
use Rattle.profiles.proofs.TableLaws.{passing}
use Rattle.frames.specs.Join.{limit}
use Rattle.tls.proofs.Results.{Answered, answered}
use Rattle.tls.proofs.Sizes.{hello-fits}
use Rattle.laws_read_back.specs.Shown.{Asked, ReadBack}
use Rattle.laws_read_back.proofs.ReadBack.{read_back}
use Rattle.third_demand.specs.Demand.{Greeting, hello_of, MadeHello}

module _ (g : Greeting) (m : MadeHello g) where
  yes : Answered g.browser g.name g.scid g.tape g.room m.answer
  yes = answered g.browser g.name g.scid g.tape g.room m.answer m.is

  pub known : g.browser < 3
  known = ltb-true g.browser 3 yes.known

  asked : Asked (for_browser g.browser) g.name g.scid g.tape
  asked =
      record {
        passing = passing g.browser known;
        named = yes.name-ok.some;
        name-short = yes.name-ok.short;
        name-bytes = yes.name-ok.bytes;
        scid-short = leb-true (length g.scid) 20 yes.short-id;
        scid-bytes = m.scid-bytes;
        tape-bytes = m.tape-bytes;
      }

  pub back : ReadBack (for_browser g.browser) g.name g.scid g.tape
  back = read_back (for_browser g.browser) g.name g.scid g.tape asked

  pub short : length (hello_of g) ≤ limit
  short = hello-fits (for_browser g.browser) g.name g.scid g.tape (passing g.browser known) asked.name-short asked.scid-short

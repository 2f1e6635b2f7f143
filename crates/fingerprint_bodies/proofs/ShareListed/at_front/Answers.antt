-- A share is told by its group, as it is found. Assumes nothing.
use mathlib.Core.Path.{◌∙◌, ap}
use mathlib.Core.Option.{some}
use lib.ListN.{drop}
use Prim.Native.Nat.{ℕ}
use Rattle.std.specs.Prelude as std
use Rattle.std.specs.Prelude.{Some, None}
use mathlib.Core.List.{List}
use Rattle.fingerprint_bodies.specs.declared.Entry as code
use Rattle.fingerprint_bodies.specs.Entries.{entry, shown}
use Rattle.fingerprint_bodies.specs.Forms.{one_share, group_of}
use Rattle.fingerprint_bodies.specs.Code.{ShareAs, EntryAs}
use Rattle.fingerprint_bodies.proofs.EntryLaws.{shown-some, shown-none}
use Rattle.fingerprint_bodies.proofs.ShareListed.at_front.Goals as goal

told : (r : std.Option (code.Entry ℕ)) (bs : List ℕ) → ShareAs r bs → EntryAs r (shown group_of one_share) bs
told None bs e = shown-none group_of one_share bs e
told (Some s) bs f =
    record {
      is = shown-some group_of one_share bs _ _ f.is ∙ ap (λ (g : ℕ). some (entry g (drop s.used bs))) f.group-is;
      some = f.some;
      within = f.within;
    }

pub returns : goal.returns
returns c = told c.one_share.result c.args.rest.now c.one_share.ensures

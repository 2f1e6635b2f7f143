-- Document 01's table (crates/profiles/specs/Table.antt), for the hellos themselves: every name, connection id and tape. n is the name's
-- length, s the connection id's, "P = 150 + (draw mod 51) the ECH payload's". Assumes nothing.
use Prim.Native.Nat.{ℕ, ◌<◌}
use mathlib.Core.Path.{◌≡◌, ◌∙◌}
use mathlib.Core.List.{List}
use lib.ListN.{length}
use Rattle.profiles.specs.Profile.{for_browser}
use Rattle.profiles.specs.Sizes.{tape_needed}
use Rattle.profiles.specs.Table.{row_of}
use Rattle.profiles.proofs.Table.{table-length, table-drawn, table-tape}
use Rattle.profiles.proofs.TableLaws.{passing}
use Rattle.profiles.proofs.TestLaws.{passed}
use Rattle.tls.specs.Hello.{hello, payload}
use Rattle.tls.specs.Make.{made_bytes}
use Rattle.tls.proofs.Sizes.{hello-length, hello-drawn}

-- what a row says of a hello: "hello length", "tape needed" and "drawn"
pub record RowHolds (b : ℕ) (name scid tape : List ℕ) : Type 0 where
  pub length-is : length (made_bytes b name scid tape) ≡ (row_of b).hello_length (length name) (length scid) (payload (for_browser b) tape)
  pub needed-is : tape_needed (for_browser b) ≡ (row_of b).tape_needed
  pub drawn-is : (hello (for_browser b) name scid tape).next ≡ (row_of b).drawn (payload (for_browser b) tape)

-- from s = 64 on, s itself takes a second byte; question 7 asks for at most 20
pub table-holds : (b : ℕ) → b < 3 → (name scid tape : List ℕ) → length scid < 64 → RowHolds b name scid tape
table-holds b h name scid tape short =
    let p = for_browser b in
    let once = (passed p (passing b h)).types-once in
    record {
      length-is = hello-length p name scid tape once ∙ table-length b h (length name) (length scid) (payload p tape) short;
      needed-is = table-tape b h;
      drawn-is = hello-drawn p name scid tape once ∙ table-drawn b h (payload p tape);
    }

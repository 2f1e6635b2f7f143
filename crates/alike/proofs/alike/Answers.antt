-- `alike::alike` meets its contract: a refused hello is alike to none; the tests are those of the definition, in its order. Assumes nothing.
use Prim.Native.Nat.{ℕ}
use mathlib.Core.Path.{◌≡◌, refl, sym, ap, ◌∙◌}
use mathlib.Core.Bool.{Bool, ◌&&◌}
use mathlib.Core.List.{List}
use lib.Dec.{eqb}
use lib.ListN.{take}
use Rattle.wire.specs.Numbers.{Bytes}
use Rattle.wire.specs.Refusals.{question, answer_of}
use Rattle.fingerprint.specs.Reader.{read}
use Rattle.fingerprint.specs.InRange.{Sane}
use Rattle.fingerprint.specs.declared.Fingerprint.{Fingerprint}
use Rattle.fingerprint.proofs.ShownLaws.{Parsed, parsed-sane, reported, refusal_is, protocols-lie}
use Rattle.alike.specs.Alike.{alike, same_numbers, same_list, same_name}
use Rattle.alike.specs.Code.{name_of, names_of, same_lists_of, same_counts_of}
use Rattle.alike.proofs.AnswerLaws.{fails, passes, five}
use Rattle.alike.proofs.ShownAlike.{agree_of, alike-parsed, first-refused, second-refused}
use borrow.Author.Tests.{eq-eqb, ne_eqb}
use Rattle.alike.proofs.alike.Goals as goal
use Rattle.alike.proofs.alike.Goals.{In-Ok-parse_clienthello, Joined-same_lists, then-x-y, else-x-y, then-same_name, else-same_name, then-same_lists, else-same_lists}

-- ---- where both are accepted

module _ (c : In-Ok-parse_clienthello) where
  parsed-a : Parsed c.args.a.now c.in-Ok.x
  parsed-a =
      let bytes : Bytes c.args.a.now = λ i. (c.type_inv.a i).fits in
      reported c.args.a.now bytes c.in-Ok.x c.in-Ok.ensures.is

  parsed-b : Parsed c.args.b.now c.in-Ok-parse_clienthello.y
  parsed-b =
      let bytes : Bytes c.args.b.now = λ i. (c.type_inv.b i).fits in
      reported c.args.b.now bytes c.in-Ok-parse_clienthello.y c.in-Ok-parse_clienthello.ensures.is

  sane-a : Sane c.args.a.now c.in-Ok.x
  sane-a = parsed-sane c.args.a.now c.in-Ok.x parsed-a

  sane-b : Sane c.args.b.now c.in-Ok-parse_clienthello.y
  sane-b = parsed-sane c.args.b.now c.in-Ok-parse_clienthello.y parsed-b

-- ---- the tests, in their order

module _ (c : Joined-same_lists) where
  abbrev x : Fingerprint
  x = c.in-Ok.x

  abbrev y : Fingerprint
  y = c.in-Ok-parse_clienthello.y

  abbrev a : List ℕ
  a = c.args.a.now

  abbrev b : List ℕ
  b = c.args.b.now

  abbrev session : Bool
  session = eqb x.legacy_session_id_len y.legacy_session_id_len

  abbrev name : Bool
  name = same_name (name_of a x.sni) (name_of b y.sni)

  abbrev lists : Bool
  lists = same_lists_of x y

  abbrev protocols : Bool
  protocols = same_list same_numbers (names_of a (take x.alpn_count x.alpn)) (names_of b (take y.alpn_count y.alpn))

  two : c.if-x-y.value ≡ session && name
  two =
      elim c.if-x-y.branch [
        | then-x-y w ↦ w.value-is ∙ passes _ _ (sym (eq-eqb _ _ w.if-x-y.true)) refl w.same_name.ensures
        | else-x-y w ↦ w.value-is ∙ ne_eqb _ _ w.if-x-y.false ∙ fails _ _ (sym (ne_eqb _ _ w.if-x-y.false)) refl
      ]

  three : c.if-same_name.value ≡ (session && name) && lists
  three =
      elim c.if-same_name.branch [
        | then-same_name w ↦ w.value-is ∙ passes _ _ two w.if-same_name.true w.same_lists.ensures
        | else-same_name w ↦ w.value-is ∙ w.if-same_name.false ∙ fails _ _ two w.if-same_name.false
      ]

  four : c.if-same_lists.value ≡ ((session && name) && lists) && protocols
  four =
      elim c.if-same_lists.branch [
        | then-same_lists w ↦ w.value-is ∙ passes _ _ three w.if-same_lists.true (rw (w.protocols.ensures.0, w.protocols-then-same_lists.ensures.0) at w.same_protocols.ensures)
        | else-same_lists w ↦ w.value-is ∙ w.if-same_lists.false ∙ fails _ _ three w.if-same_lists.false
      ]

  in_order : session && (name && (lists && (protocols && same_counts_of x y))) ≡ agree_of a x b y
  unfolding agree_of
  in_order = refl

  all : Parsed a x → Parsed b y → (((session && name) && lists) && protocols) && same_counts_of x y ≡ alike (read a) (read b)
  all p q = five session name lists protocols (same_counts_of x y) ∙ in_order ∙ sym (alike-parsed a b x y p q)

-- ---- the goals

pub returns-in_default : goal.returns-in_default
returns-in_default c =
    first-refused c.args.a.now c.args.b.now _ (refusal_is c.args.a.now (question c.in_default.field-0) (ap answer_of (sym c.in_default.is) ∙ c.parse_clienthello.ensures.is))

pub returns-in_default-parse_clienthello : goal.returns-in_default-parse_clienthello
returns-in_default-parse_clienthello c =
    let refused = c.in_default-parse_clienthello in
    second-refused c.args.a.now c.args.b.now _ (refusal_is c.args.b.now (question refused.field-0) (ap answer_of (sym refused.is) ∙ c.parse_clienthello-2.ensures.is))

pub same_name-requires : goal.same_name-requires
same_name-requires c =
    let here = (goal.at.same_name-requires c).In-Ok-parse_clienthello in
    ((sane-a here).sni-inside, (sane-b here).sni-inside)

pub same_protocols-requires : goal.same_protocols-requires
same_protocols-requires c =
    let here = (goal.at.same_protocols-requires c).In-Ok-parse_clienthello in
    let x = sane-a here in
    let y = sane-b here in
    (protocols-lie x c.protocols.ensures.0, protocols-lie y c.protocols-then-same_lists.ensures.0)

pub returns-then-same_protocols : goal.returns-then-same_protocols
returns-then-same_protocols c =
    let here = (goal.at.returns-then-same_protocols c).In-Ok-parse_clienthello in
    let joined = (goal.at.returns-then-same_protocols c).Joined-same_lists in
    passes _ _ (four joined) c.if-same_protocols.true c.same_but_for_order.ensures ∙ all joined (parsed-a here) (parsed-b here)

pub returns-else-same_protocols : goal.returns-else-same_protocols
returns-else-same_protocols c =
    let here = (goal.at.returns-else-same_protocols c).In-Ok-parse_clienthello in
    let joined = (goal.at.returns-else-same_protocols c).Joined-same_lists in
    c.if-same_protocols.false ∙ fails _ _ (four joined) c.if-same_protocols.false ∙ all joined (parsed-a here) (parsed-b here)

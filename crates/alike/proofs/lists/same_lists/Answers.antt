-- `alike::lists::same_lists` meets its contract: one list after the other, in the order of the contract. Assumes nothing.
use mathlib.Core.Path.{◌≡◌, refl, ◌∙◌}
use mathlib.Core.Bool.{Bool, ◌&&◌}
use lib.Dec.{eqb}
use lib.ListN.{take}
use Rattle.fingerprint.specs.InRange.{group_number, group_numbers}
use Rattle.alike.specs.Alike.{same_numbers}
use Rattle.alike.specs.Code.{same_lists_of}
use Rattle.alike.proofs.AnswerLaws.{list-same, numbers-same, fails, passes, five}
use Rattle.alike.proofs.lists.same_lists.Goals as goal
use Rattle.alike.proofs.lists.same_lists.Goals.{Joined-eq-3, then-eq, else-eq, then-eq-2, else-eq-2, then-eq-3, else-eq-3}

module _ (c : Joined-eq-3) where
  abbrev suites : Bool
  suites = same_numbers (take c.args.x.now.suite_count c.args.x.now.cipher_suites) (take c.args.y.now.suite_count c.args.y.now.cipher_suites)

  abbrev groups : Bool
  groups = same_numbers (group_numbers c.args.x.now.supported_groups c.args.x.now.group_count) (group_numbers c.args.y.now.supported_groups c.args.y.now.group_count)

  abbrev shares : Bool
  shares = same_numbers (group_numbers c.args.x.now.key_share_groups c.args.x.now.share_count) (group_numbers c.args.y.now.key_share_groups c.args.y.now.share_count)

  abbrev algorithms : Bool
  algorithms = same_numbers (take c.args.x.now.algorithm_count c.args.x.now.signature_algorithms) (take c.args.y.now.algorithm_count c.args.y.now.signature_algorithms)

  abbrev versions : Bool
  versions = same_numbers (take c.args.x.now.version_count c.args.x.now.supported_versions) (take c.args.y.now.version_count c.args.y.now.supported_versions)

  one : c.eq.result ≡ suites
  one = (rw (c.suites.ensures.0, c.suites-2.ensures.0) at c.eq.ensures) ∙ list-same eqb _ _

  two : c.if-eq.value ≡ suites && groups
  two =
      elim c.if-eq.branch [
        | then-eq w ↦ w.value-is ∙ passes _ _ one w.if-eq.true ((rw (w.groups.ensures.0, w.groups-then-eq.ensures.0) at w.eq-then-eq.ensures) ∙ numbers-same group_number _ _)
        | else-eq w ↦ w.value-is ∙ w.if-eq.false ∙ fails _ _ one w.if-eq.false
      ]

  three : c.if-eq-2.value ≡ (suites && groups) && shares
  three =
      elim c.if-eq-2.branch [
        | then-eq-2 w ↦ w.value-is ∙ passes _ _ two w.if-eq-2.true ((rw (w.shares.ensures.0, w.shares-then-eq-2.ensures.0) at w.eq-then-eq-2.ensures) ∙ numbers-same group_number _ _)
        | else-eq-2 w ↦ w.value-is ∙ w.if-eq-2.false ∙ fails _ _ two w.if-eq-2.false
      ]

  four : c.if-eq-3.value ≡ ((suites && groups) && shares) && algorithms
  four =
      elim c.if-eq-3.branch [
        | then-eq-3 w ↦ w.value-is ∙ passes _ _ three w.if-eq-3.true ((rw (w.algorithms.ensures.0, w.algorithms-then-eq-3.ensures.0) at w.eq-then-eq-3.ensures) ∙ list-same eqb _ _)
        | else-eq-3 w ↦ w.value-is ∙ w.if-eq-3.false ∙ fails _ _ three w.if-eq-3.false
      ]

  all : suites && (groups && (shares && (algorithms && versions))) ≡ same_lists_of c.args.x.now c.args.y.now
  unfolding same_lists_of
  all = refl

  regrouped : (((suites && groups) && shares) && algorithms) && versions ≡ same_lists_of c.args.x.now c.args.y.now
  regrouped = five suites groups shares algorithms versions ∙ all

pub returns-then-eq-4 : goal.returns-then-eq-4
returns-then-eq-4 c =
    let joined = (goal.at.returns-then-eq-4 c).Joined-eq-3 in
    passes _ _ (four joined) c.if-eq-4.true ((rw (c.versions.ensures.0, c.versions-then-eq-4.ensures.0) at c.eq-then-eq-4.ensures) ∙ list-same eqb _ _) ∙ regrouped joined

pub returns-else-eq-4 : goal.returns-else-eq-4
returns-else-eq-4 c =
    let joined = (goal.at.returns-else-eq-4 c).Joined-eq-3 in
    c.if-eq-4.false ∙ fails _ _ (four joined) c.if-eq-4.false ∙ regrouped joined

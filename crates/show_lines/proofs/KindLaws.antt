-- A kind of line is known by its number. Assumes nothing.
use Prim.Native.Nat.{ℕ}
use mathlib.Core.Path.{◌≡◌, refl, sym, ap, ◌∙◌}
use mathlib.Core.Bool.{true, false}
use mathlib.Core.List.{List, [], ◌∷◌}
use borrow.Author.Rules.{rules}
use denote.Enum.Bare.{sameb, same_true, same_false}
use lib.ListN.{get_or}
use Rattle.show_lines.specs.Rows.{kind_number}
use Rattle.show_lines.specs.contracts.grammar.Kind.{the_type}
use Rattle.show_lines.specs.declared.grammar.Kind.{Kind}
use Rattle.show_lines.specs.declared.grammar.Kind.TheVariants as kind

-- the kinds, in the order of the grammar
unfoldable kinds : List Kind
kinds =
    kind.MsgType ∷ kind.Length ∷ kind.LegacyVersion ∷ kind.Random ∷ kind.LegacySessionId ∷ kind.CipherSuites ∷ kind.Suite ∷
    kind.LegacyCompressionMethods ∷ kind.ExtensionBlock ∷ kind.Extension ∷ kind.ServerNameList ∷ kind.ServerName ∷
    kind.NamedGroupList ∷ kind.Group ∷ kind.SupportedSignatureAlgorithms ∷ kind.Algorithm ∷ kind.ProtocolNameList ∷
    kind.ProtocolName ∷ kind.VersionList ∷ kind.Version ∷ kind.ClientShares ∷ kind.KeyShare ∷ kind.Parameter ∷ kind.Unread ∷
    kind.Rest ∷ kind.After ∷ kind.End ∷ []

abbrev of-number : ℕ → Kind
of-number n = get_or kinds n kind.End

back : (k : Kind) → of-number (kind_number k) ≡ k
unfolding kinds
back kind.MsgType = refl
back kind.Length = refl
back kind.LegacyVersion = refl
back kind.Random = refl
back kind.LegacySessionId = refl
back kind.CipherSuites = refl
back kind.Suite = refl
back kind.LegacyCompressionMethods = refl
back kind.ExtensionBlock = refl
back kind.Extension = refl
back kind.ServerNameList = refl
back kind.ServerName = refl
back kind.NamedGroupList = refl
back kind.Group = refl
back kind.SupportedSignatureAlgorithms = refl
back kind.Algorithm = refl
back kind.ProtocolNameList = refl
back kind.ProtocolName = refl
back kind.VersionList = refl
back kind.Version = refl
back kind.ClientShares = refl
back kind.KeyShare = refl
back kind.Parameter = refl
back kind.Unread = refl
back kind.Rest = refl
back kind.After = refl
back kind.End = refl

pub same_kind : (a b : Kind) → kind_number a ≡ kind_number b → a ≡ b
same_kind a b e = sym (back a) ∙ ap of-number e ∙ back b

pub other_kind : (a b : Kind) → (a ≡ b → ⊥) → kind_number a ≡ kind_number b → ⊥
other_kind a b h e = h (same_kind a b e)

-- the same of the code's test
pub same-number : (a b : Kind) → sameb the_type a b ≡ true → kind_number a ≡ kind_number b
same-number a b e = ap kind_number (same_true the_type (search rules) a b e)

pub other-number : (a b : Kind) → sameb the_type a b ≡ false → kind_number a ≡ kind_number b → ⊥
other-number a b e = other_kind a b (same_false the_type a b e)

-- What the code has, in the grammar's numbers: a kind of line, a row, a cursor.
use Rattle.std.specs.Prelude.{ℕ, ◌≡◌, cond, eqb, Some, None}
use Rattle.std.specs.Prelude as std
use Rattle.show_lines.specs.Grammar.{column}
use Rattle.show_lines.specs.Lines.{Cursor}
use Rattle.show_lines.specs.declared.cursor.Cursor as code
use Rattle.show_lines.specs.declared.grammar.Kind.{Kind}
use Rattle.show_lines.specs.declared.grammar.Kind.TheVariants as kind
use Rattle.show_lines.specs.declared.grammar.Form.{Form}
use Rattle.show_lines.specs.declared.grammar.Form.TheVariants as form
use Rattle.show_lines.specs.declared.grammar.Part.{Part}
use Rattle.show_lines.specs.declared.grammar.Part.TheVariants as part
use Rattle.registries.specs.declared.Registry.{Registry}
use Rattle.registries.specs.declared.Registry.TheVariants as registry
use Rattle.show_lines.specs.declared.grammar.Row.{Row}

-- a kind's row
abbrev pub kind_number : Kind → ℕ
kind_number kind.MsgType = 0
kind_number kind.Length = 1
kind_number kind.LegacyVersion = 2
kind_number kind.Random = 3
kind_number kind.LegacySessionId = 4
kind_number kind.CipherSuites = 5
kind_number kind.Suite = 6
kind_number kind.LegacyCompressionMethods = 7
kind_number kind.ExtensionBlock = 8
kind_number kind.Extension = 9
kind_number kind.ServerNameList = 10
kind_number kind.ServerName = 11
kind_number kind.NamedGroupList = 12
kind_number kind.Group = 13
kind_number kind.SupportedSignatureAlgorithms = 14
kind_number kind.Algorithm = 15
kind_number kind.ProtocolNameList = 16
kind_number kind.ProtocolName = 17
kind_number kind.VersionList = 18
kind_number kind.Version = 19
kind_number kind.ClientShares = 20
kind_number kind.KeyShare = 21
kind_number kind.Parameter = 22
kind_number kind.Unread = 23
kind_number kind.Rest = 24
kind_number kind.After = 25
kind_number kind.End = 26

-- the numbers of the columns
abbrev pub form_number : Form → ℕ
form_number form.Plain = 0
form_number form.Vector = 1
form_number (form.Opens k) = 2

-- the kind of line inside, 0 where there are none
abbrev pub inside_number : Form → ℕ
inside_number form.Plain = 0
inside_number form.Vector = 0
inside_number (form.Opens k) = kind_number k

abbrev pub part_number : Part → ℕ
part_number part.Hello = 0
part_number part.Suites = 1
part_number part.Block = 2
part_number part.Body = 3
part_number part.List = 4

abbrev pub registry_number : std.Option Registry → ℕ
registry_number None = 0
registry_number (Some registry.Suites) = 1
registry_number (Some registry.Groups) = 2
registry_number (Some registry.Algorithms) = 3
registry_number (Some registry.Types) = 4
registry_number (Some registry.Versions) = 5
registry_number (Some registry.Parameters) = 6

-- the bytes of a front; none where the line takes all that is left
abbrev pub front_column : ℕ → std.Option ℕ
front_column n = cond (eqb n 0) None (Some n)

pub record Stands (what : ℕ) (r : Row) : Type 0 where
  pub front : r.front ≡ front_column (column what 0)
  pub width : r.width ≡ column what 1
  pub form : form_number r.form ≡ column what 2
  pub part : part_number r.part ≡ column what 3
  pub inside : inside_number r.form ≡ column what 4
  pub follows : kind_number r.then ≡ column what 5
  pub registry : registry_number r.registry ≡ column what 6

-- a cursor, with what stands there as its number
abbrev pub cursor_of : code.Cursor → Cursor
cursor_of c = record { at = c.at; what = kind_number c.kind; list = c.list; body = c.body; block = c.block }

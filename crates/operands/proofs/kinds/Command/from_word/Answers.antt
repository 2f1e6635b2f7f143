-- In each arm its length and its bytes, which the arm has read, make the word. Assumes nothing.
use Rattle.std.proofs.Common.{arith}
use Rattle.std.proofs.lemmas.Slice.Eq.{text_from_reads}
use Rattle.script.specs.Scan.{text}
use Rattle.operands.proofs.kinds.Command.from_word.Goals as goal

pub returns-in-size : goal.returns-in-size
returns-in-size c = rw (text_from_reads c.args.word.now (text "size") (omega arith) (search arith))

pub returns-in-write : goal.returns-in-write
returns-in-write c = rw (text_from_reads c.args.word.now (text "write") (omega arith) (search arith))

pub returns-in-read : goal.returns-in-read
returns-in-read c = rw (text_from_reads c.args.word.now (text "read") (omega arith) (search arith))

pub returns-in-make : goal.returns-in-make
returns-in-make c = rw (text_from_reads c.args.word.now (text "make") (omega arith) (search arith))

pub returns-in-join : goal.returns-in-join
returns-in-join c = rw (text_from_reads c.args.word.now (text "join") (omega arith) (search arith))

pub returns-in-frames : goal.returns-in-frames
returns-in-frames c = rw (text_from_reads c.args.word.now (text "frames") (omega arith) (search arith))

pub returns-in-split : goal.returns-in-split
returns-in-split c = rw (text_from_reads c.args.word.now (text "split") (omega arith) (search arith))

pub returns-in-115 : goal.returns-in-115
returns-in-115 c = rw (text_from_reads c.args.word.now (text "show-frames") (omega arith) (search arith))

pub returns-in-report : goal.returns-in-report
returns-in-report c = rw (text_from_reads c.args.word.now (text "report") (omega arith) (search arith))

pub returns-in-show : goal.returns-in-show
returns-in-show c = rw (text_from_reads c.args.word.now (text "show") (omega arith) (search arith))

pub returns-in-name : goal.returns-in-name
returns-in-name c = rw (text_from_reads c.args.word.now (text "name") (omega arith) (search arith))

pub returns-in-set : goal.returns-in-set
returns-in-set c = rw (text_from_reads c.args.word.now (text "set") (omega arith) (search arith))

pub returns-in-alike : goal.returns-in-alike
returns-in-alike c = rw (text_from_reads c.args.word.now (text "alike") (omega arith) (search arith))

-- `show_marks::filling` meets its contract: by the tests of the definition. Assumes nothing.
use borrow.Author.Tests.{lt-ltb, le-ltb}
use Rattle.show_marks.specs.Text.{filling}
use Rattle.show_marks.proofs.filling.Goals as goal

pub returns-then-length-lt100 : goal.returns-then-length-lt100
unfolding filling
returns-then-length-lt100 c =
    let yes = c.if-length-lt100.true in
    rw (lt-ltb _ _ yes)

pub returns-then-length-lt1000 : goal.returns-then-length-lt1000
unfolding filling
returns-then-length-lt1000 c =
    let no1 = c.if-length-lt100.false in
    let yes = c.if-length-lt1000.true in
    rw (le-ltb _ _ no1, lt-ltb _ _ yes)

pub returns-then-length-lt10000 : goal.returns-then-length-lt10000
unfolding filling
returns-then-length-lt10000 c =
    let no1 = c.if-length-lt100.false in
    let no2 = c.if-length-lt1000.false in
    let yes = c.if-length-lt10000.true in
    rw (le-ltb _ _ no1, le-ltb _ _ no2, lt-ltb _ _ yes)

pub returns-then-length-lt100000 : goal.returns-then-length-lt100000
unfolding filling
returns-then-length-lt100000 c =
    let no1 = c.if-length-lt100.false in
    let no2 = c.if-length-lt1000.false in
    let no3 = c.if-length-lt10000.false in
    let yes = c.if-length-lt100000.true in
    rw (le-ltb _ _ no1, le-ltb _ _ no2, le-ltb _ _ no3, lt-ltb _ _ yes)

pub returns : goal.returns
unfolding filling
returns c =
    let no1 = c.if-length-lt100.false in
    let no2 = c.if-length-lt1000.false in
    let no3 = c.if-length-lt10000.false in
    let no4 = c.if-length-lt100000.false in
    rw (le-ltb _ _ no1, le-ltb _ _ no2, le-ltb _ _ no3, le-ltb _ _ no4)

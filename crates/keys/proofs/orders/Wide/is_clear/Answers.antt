use borrow.Author.Tests.{lt-ltb, le-ltb}
use Rattle.keys.specs.Keys.{clear_wide}
use Rattle.keys.proofs.ClearLaws.{clear_low}
use Rattle.keys.proofs.orders.Wide.is_clear.Goals as goal

pub returns-then-self-lt8 : goal.returns-then-self-lt8
unfolding clear_wide
returns-then-self-lt8 c = rw (lt-ltb _ 8 c.before.before.before.if-self-lt8.true)

pub returns-then-self-eq0 : goal.returns-then-self-eq0
unfolding clear_wide
returns-then-self-eq0 c = clear_low c.before.before.before.before.args.self c.before.before.if-self-lt8.false c.if-self-eq0.true

pub returns-then-self-lt16 : goal.returns-then-self-lt16
unfolding clear_wide
returns-then-self-lt16 c = rw (le-ltb _ 8 c.before.before.before.before.before.before.if-self-lt8.false, lt-ltb _ 16 c.before.before.if-self-lt16.true)

pub returns : goal.returns
unfolding clear_wide
returns c = rw (le-ltb _ 8 c.before.before.before.before.if-self-lt8.false, le-ltb _ 16 c.if-self-lt16.false)

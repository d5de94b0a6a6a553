use Rattle.bench.proofs.spans.Loop.{Spanned}
use Rattle.bench.proofs.spans.page_span.Given as goal

abbrev pub invariant-loop : goal.invariant-loop
invariant-loop l = Spanned l.page l.count l.counter l.at

use Rattle.commands.proofs.commands.Seen.{refused_early, admitted}
use Rattle.commands.proofs.commands.respond.Goals as goal

pub returns-in_err-decide_early : goal.returns-in_err-decide_early
returns-in_err-decide_early c =
    let e = c.in_err-decide_early in
    refused_early c.args.c c.args.buffer.now _ _ c.in-Some.ensures e.field-0.0 e.ensures c.from_residual.result c.from_residual.ensures.1

pub carry_out-requires : goal.carry_out-requires
carry_out-requires c = admitted c.args.c c.args.buffer.now _ _ c.in-Some.ensures c.in_ok-decide_early.ensures

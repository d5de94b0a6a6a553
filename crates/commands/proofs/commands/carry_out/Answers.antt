use native.Mathlib.Omega.{arith}
use Rattle.commands.proofs.commands.Seen.{weighs, refused_late, ruled}
use Rattle.commands.proofs.commands.carry_out.Goals as goal

pub held_room-old-requires : goal.held_room-old-requires
held_room-old-requires c = weighs c.args.c c.args.buffer.now _ _ c.requires (omega arith) c.look_up-f.ensures

pub decide_late-requires : goal.decide_late-requires
decide_late-requires c =
    omega (arith, c.held_room-old.ensures, (weighs c.args.c c.args.buffer.now _ _ c.requires (omega arith) c.look_up-f.ensures).sum)

pub returns-in_err-decide_late : goal.returns-in_err-decide_late
returns-in_err-decide_late c =
    let e = c.in_err-decide_late in
    refused_late c.args.c c.args.buffer.now _ _ c.requires (omega arith) c.look_up-f.ensures c.held_room-old.ensures e.field-0.0 e.ensures
    c.from_residual.result c.from_residual.ensures.1

pub perform-requires : goal.perform-requires
perform-requires c =
    ruled c.args.c c.args.buffer.now _ _ c.requires (omega arith) c.look_up-f.ensures c.held_room-old.ensures c.in_ok-decide_late.ensures

use native.Mathlib.Omega.{arith}
use lib.ListN.{length-take}
use Rattle.commands.proofs.effects.Effects.{is_known, value_lent, can_put, stored_is, can_hand, handed_is, can_list, listed_is, can_erase, erased_is, unchanged}
use Rattle.commands.proofs.effects.perform.Goals as goal

pub unwrap-requires : goal.unwrap-requires
unwrap-requires c = is_known c.args.buffer.now c.requires _ c.try_from.ensures

pub slice_bounds-put-end : goal.slice_bounds-put-end
slice_bounds-put-end c = value_lent _ c.requires c.try_from.ensures c.in-Store.ensures

pub slice_bounds-put-end-in-Store : goal.slice_bounds-put-end-in-Store
slice_bounds-put-end-in-Store c =
    simp length-take (omega (arith, value_lent c.args.buffer.now c.requires c.try_from.ensures c.in-Store.ensures))

pub put-requires : goal.put-requires
put-requires c = can_put _ c.requires c.try_from.ensures c.in-Store.ensures

pub returns-in-Store : goal.returns-in-Store
returns-in-Store c = stored_is _ c.requires c.try_from.ensures c.in-Store.ensures c.put.ensures

pub hand_over-requires : goal.hand_over-requires
hand_over-requires c = can_hand _ c.requires c.try_from.ensures c.in-Retrieve.ensures

pub returns-in-Retrieve : goal.returns-in-Retrieve
returns-in-Retrieve c = handed_is _ c.requires c.try_from.ensures c.in-Retrieve.ensures c.hand_over.ensures

pub list_keys-requires : goal.list_keys-requires
list_keys-requires c = can_list _ c.requires c.try_from.ensures c.in-List.ensures

pub returns-in-List : goal.returns-in-List
returns-in-List c = listed_is _ c.requires c.try_from.ensures c.in-List.ensures c.list_keys.ensures

pub erase-requires : goal.erase-requires
erase-requires c = can_erase c.args.buffer.now c.requires c.try_from.ensures c.in-Delete.ensures

pub returns-in-Delete : goal.returns-in-Delete
returns-in-Delete c = erased_is _ c.requires c.try_from.ensures c.in-Delete.ensures c.erase.ensures

pub returns-in-Exist : goal.returns-in-Exist
returns-in-Exist c = unchanged _ c.requires c.try_from.ensures c.in-Exist.ensures

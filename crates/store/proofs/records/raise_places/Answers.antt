use Rattle.store.proofs.records.raise_places.Invariants.{raise-turn, raise-done}
use Rattle.store.proofs.records.raise_places.Goals as goal

pub loop-j-preserved : goal.loop-j-preserved
loop-j-preserved c = search raise-turn

pub returns : goal.returns
returns c = search raise-done

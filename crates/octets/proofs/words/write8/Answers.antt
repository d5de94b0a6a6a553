use Rattle.octets.proofs.PartLaws.{put_one}
use Rattle.octets.proofs.words.write8.Goals as goal

pub returns : goal.returns
returns c = search put_one

-- `split::serve`: a service has an answer.
use Rattle.split.proofs.Serving.{answered}
use Rattle.split.proofs.serve.Goals as goal

pub unwrap-size-requires : goal.unwrap-size-requires
unwrap-size-requires g c = answered _ _ c.answer.result c.requires.0 c.answer.ensures

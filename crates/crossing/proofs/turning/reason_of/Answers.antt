use Rattle.std.proofs.Common.{◌∙◌, ap}
use Rattle.crossing.specs.Turning.{reason_of}
use Rattle.crossing.proofs.Reasons.{read}
use Rattle.crossing.proofs.turning.reason_of.Goals as goal

pub returns : goal.returns
returns c = c.unwrap_or.ensures ∙ read _ _ c.try_from-2.ensures ∙ ap reason_of c.in-Ok.ensures.1

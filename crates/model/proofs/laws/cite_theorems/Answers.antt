use Rattle.model.proofs.Promise.{the_session_keeps_its_laws, sessions_are_made_new}
use Rattle.model.proofs.Unique.{optimum_is_unique}
use Rattle.model.proofs.laws.cite_theorems.Goals as goal

pub returns-clause-session : goal.returns-clause-session
returns-clause-session c = the_session_keeps_its_laws

pub returns-clause-making : goal.returns-clause-making
returns-clause-making c = sessions_are_made_new

pub returns-clause-optimum : goal.returns-clause-optimum
returns-clause-optimum c = optimum_is_unique

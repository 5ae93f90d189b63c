use Rattle.desk.proofs.Finding.{finds_each_session}
use Rattle.desk.proofs.every_session_is_found.Goals as goal

pub returns : goal.returns
returns c = record { finds_each_session = finds_each_session }

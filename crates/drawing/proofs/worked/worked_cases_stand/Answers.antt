use Rattle.drawing.proofs.CaseProofs.{cases_stand}
use Rattle.drawing.proofs.worked.worked_cases_stand.Goals as goal

pub returns-clause-stand : goal.returns-clause-stand
returns-clause-stand c = cases_stand

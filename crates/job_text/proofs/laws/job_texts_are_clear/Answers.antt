use Rattle.job_text.proofs.TaskLemmas.{says_tasks}
use Rattle.job_text.proofs.ShapeLemmas.{says_shape}
use Rattle.job_text.proofs.WorkLemmas.{says_work}
use Rattle.job_text.proofs.FileLemmas.{names_its_files}
use Rattle.job_text.proofs.Law.{accepted}
use Rattle.job_text.proofs.laws.job_texts_are_clear.Goals as goal

pub returns-clause-no_fault : goal.returns-clause-no_fault
returns-clause-no_fault c = accepted

pub returns-clause-files : goal.returns-clause-files
returns-clause-files c = names_its_files

pub returns-clause-tasks : goal.returns-clause-tasks
returns-clause-tasks c = says_tasks

pub returns-clause-shape : goal.returns-clause-shape
returns-clause-shape c = says_shape

pub returns-clause-work : goal.returns-clause-work
returns-clause-work c = says_work

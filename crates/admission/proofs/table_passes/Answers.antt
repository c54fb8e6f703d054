use Rattle.admission.proofs.table_passes.Goals as goal

pub returns-in-Each : goal.returns-in-Each
returns-in-Each c = rw c.in-Each.is c.table_ok.ensures

pub returns-in-Tidy : goal.returns-in-Tidy
returns-in-Tidy c = rw c.in-Tidy.is c.tidy_ok.ensures

use Rattle.tv_run.proofs.run.OpenRun.+push_name.Given as goal

abbrev pub decreases-push_name : goal.decreases-push_name
decreases-push_name l = l.job

use Rattle.tv_traces.proofs.traces.Traces.so_far.Goals as goal

pub returns : goal.returns
returns c = λ known settled gives d w. (c.in_ok-traces.ensures known settled gives d w.flow_is (c.in_ok-sight.ensures known settled _ _ w.known_are)).records

use Rattle.tv_run.proofs.HandingLemmas.{found-handable, found-offer, none-found}
use Rattle.tv_run.proofs.run.OpenRun.hand_out.Goals as goal

pub ticket_of-ticket-requires : goal.ticket_of-ticket-requires
ticket_of-ticket-requires c =
    let p = c.requires in
    let r = c.args.self.now in
    (p.0, p.1.0, p.1.1, found-offer p.0 r p.1.0 c.in-Some.job (c.in-Some.ensures p.0 p.1.0 p.1.1))

pub begin-requires : goal.begin-requires
begin-requires c =
    let p = c.requires in
    let r = c.args.self.now in
    let k = c.in-Some.job in
    let found = c.in-Some.ensures p.0 p.1.0 p.1.1 in
    let of_job = c.ticket_of-ticket.ensures p.0 p.1.0 p.1.1 (found-offer p.0 r p.1.0 k found) in
    (p.0, p.1.0, p.1.1, p.1.2, found-handable p.0 r p.1.0 k c.ticket_of-ticket.result found of_job)

pub returns-in-Some : goal.returns-in-Some
returns-in-Some c = λ gives st.
    let r = c.args.self.now in
    let k = c.in-Some.job in
    let found = c.in-Some.ensures gives st.0 st.1 in
    let of_job = c.ticket_of-ticket.ensures gives st.0 st.1 (found-offer gives r st.0 k found) in
    c.begin.ensures gives st.0 st.1 st.2 (found-handable gives r st.0 k c.ticket_of-ticket.result found of_job)

pub returns-in-None : goal.returns-in-None
returns-in-None c = λ gives st. none-found gives c.args.self.now st (λ xs s. c.in-None.ensures gives xs s)

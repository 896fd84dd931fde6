use Rattle.stable_record.specs.Reading.{fact_at}
use Rattle.stable_record.proofs.reading.take_rest.Goals as goal

pub returns-in-1 : goal.returns-in-1
unfolding fact_at
returns-in-1 c = λ tx. rw c.in-1.is (c.take_promise.ensures tx)

pub returns-in-2 : goal.returns-in-2
unfolding fact_at
returns-in-2 c = λ tx. rw c.in-2.is (c.take_accept.ensures tx)

pub returns-in-3 : goal.returns-in-3
unfolding fact_at
returns-in-3 c = λ tx. rw c.in-3.is (c.take_ballot.ensures tx)

pub returns-in-4 : goal.returns-in-4
unfolding fact_at
returns-in-4 c = λ tx. rw c.in-4.is (c.take_vote_prepared.ensures tx)

pub returns-in-8 : goal.returns-in-8
unfolding fact_at
returns-in-8 c = λ tx. rw c.in-8.is (c.take_promise_all.ensures tx)

use Rattle.bench_words.proofs.mistake.MistakeDisplay.fmt.Goals as goal

pub returns-in-Refused-clause-writes :
    goal.returns-in-Refused-clause-writes
returns-in-Refused-clause-writes g c = rw c.in-Refused.is c.write-in-Refused.ensures.writes

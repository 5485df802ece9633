use Rattle.send_laws.proofs.ReadBack.{all-read, sent-read}
use Rattle.send_laws.proofs.read_laws.sent_packets_are_read.Goals as goal

pub returns-clause-accepted : goal.returns-clause-accepted
returns-clause-accepted c = all-read

pub returns-clause-sent : goal.returns-clause-sent
returns-clause-sent c = sent-read

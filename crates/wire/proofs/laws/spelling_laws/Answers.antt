use Rattle.wire.proofs.OneSpelling.{begins_none, spelled_once, means_one}
use Rattle.wire.proofs.laws.spelling_laws.Goals as goal

pub returns : goal.returns
returns c = record { begins_none = begins_none; one_spelling = spelled_once; one_message = means_one }

use Rattle.net_frames.proofs.Spellings.{begins_with_one, lists_are_apart, front_is}
use Rattle.net_frames.proofs.laws.spellings_are_apart.Goals as goal

pub returns-clause-one : goal.returns-clause-one
returns-clause-one c = begins_with_one

pub returns-clause-lists : goal.returns-clause-lists
returns-clause-lists c = lists_are_apart

pub returns-clause-front : goal.returns-clause-front
returns-clause-front c = λ frames front bytes are front_are same. let f = front_is frames front bytes are front_are same in (f.rest, f.frames_are, f.bytes_are, f.are_frames)

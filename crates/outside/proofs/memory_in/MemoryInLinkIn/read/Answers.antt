use Rattle.std.proofs.Common.{◌++◌, take, ap, ◌∙◌}
use Rattle.turn_cell.specs.Passes.{mine}
use Rattle.outside.specs.MemoryLinks.{InState}
use Rattle.outside.proofs.Rings.{got_told}
use Rattle.outside.proofs.memory_in.MemoryInLinkIn.read.Goals as goal

pub returns-clause-told : goal.returns-clause-told
returns-clause-told g c =
    let count = c.read_some-count.result in let room = c.read_some-count.new.room in
    got_told (mine c.self.inside.pass) (mine c.read_some-count.new.pass) count room c.read_some-count.ensures.read c.read_some-count.ensures.end
    ∙ ap (λ (s : InState). s.got ++ take count room) c.self.view_is

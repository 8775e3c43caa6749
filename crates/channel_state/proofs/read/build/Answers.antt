use Rattle.std.proofs.Common.{◌≡◌, ◌+◌, [], suc, Ok, length, sym, ap, subst, ◌∙◌, arith}
use Rattle.std.proofs.lemmas.Result.{IfOk-at_ok}
use Rattle.flow_defs.specs.declared.image.Image.{Image}
use Rattle.flow_defs.specs.Jobs.{last_edge, tasks}
use Rattle.job_text.specs.Shapes.{job_of, IsShapeOf}
use Rattle.channel_state.specs.Reading.{piece, tested}
use Rattle.channel_state.specs.ImageFaults.{is_text}
use Rattle.channel_state.specs.Building.{AreSources, AreSaved}
use Rattle.channel_state.proofs.AssemblyLemmas.{image_built}
use Rattle.channel_state.proofs.read.build.Goals as goal

pub returns : goal.returns
returns c =
    let shape = c.in-Ok.shape in
    let job = job_of shape in
    let before = c.text.new.self.rest.now in
    let behind = c.read_saved.new.cursor.rest.now in
    let img : Image = record {
      number = c.in_ok-number.number;
      final_one = c.in_ok-final_one.final_one;
      text = c.in_ok-copied.copied;
      offsets = c.in_ok-sources.sources.offsets;
      ended = c.in_ok-sources.sources.ended;
      emitted = c.in_ok-emitted.emitted;
      tables = c.in_ok-tables.tables;
      takes = c.in_ok-takes.takes;
      saved_in = c.in_ok-saved.saved.saved_in;
      saved_out = c.in_ok-saved.saved.saved_out;
    } in
    let text_is = c.in_ok-copied.ensures in
    let its : IsShapeOf c.in_ok-text.text.now shape = c.in-Ok.ensures.ok in
    image_built c.args.bytes.now img before behind shape (λ i. omega (arith, c.type_inv.bytes i))
    (record {
      from_version = c.mark.new.self.rest.now;
      from_number = c.version.new.self.rest.now;
      from_flag = c.some.new.self.rest.now;
      from_text = c.flag.new.self.rest.now;
      end = c.mark-2.new.self.rest.now;
      rest = [];
      version = c.in_ok-version.field-0;
      mark_is = c.in_ok-mark.ensures;
      version_is = c.in_ok-version.ensures;
      number_is = c.in_ok-number.ensures;
      flag_is = c.in_ok-final_one.ensures;
      text_is = subst (λ t. tested is_text piece c.flag.new.self.rest.now ≡ Ok (t, before)) (sym text_is) c.in_ok-text.ensures;
      end_is = c.in_ok-mark-2.ensures;
      nothing_is = c.in_ok-end.ensures;
    })
    (subst (λ t. IsShapeOf t shape) (sym text_is) its)
    (λ fits.
    let read = c.in_ok-sources.ensures fits in
    let counts = c.in_ok-emitted.ensures.read read.read.spelled.rest_fits in
    let tables = c.in_ok-tables.ensures.read counts.rest_fits in
    let takes = c.in_ok-takes.ensures tables.spelled.rest_fits in
    let saved = c.in_ok-saved.ensures takes.read.spelled.rest_fits in
    let last : c.last_edge.result + 1 ≡ suc (last_edge job) = (let is = c.last_edge.ensures in omega (arith, is)) in
    record {
      from_counts = c.read_sources.new.cursor.rest.now;
      from_tables = c.read_counts.new.cursor.rest.now;
      from_takes = c.read_tables.new.cursor.rest.now;
      from_saved = c.read_takes.new.cursor.rest.now;
      sources = subst (λ n. AreSources n img.final_one before c.read_sources.new.cursor.rest.now img.offsets.items img.ended.items) c.tasks.ensures read;
      counts = counts;
      count_count = c.in_ok-emitted.ensures.count ∙ c.sending_tasks.ensures;
      tables = tables;
      table_count = c.in_ok-tables.ensures.count ∙ c.tasks-2.ensures ∙ ap (tasks job) last;
      takes = takes;
      saved = subst (λ n. AreSaved n img.final_one c.read_takes.new.cursor.rest.now behind img.saved_in.items img.saved_out.items) c.channels.ensures saved;
    })

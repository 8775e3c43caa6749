-- The numbers of an edge on which its cells depend. This is this project's own choice.
use Rattle.std.specs.Prelude.{◌≡◌, ℕ, suc, ◌≤◌, List, ◌++◌, map, replicate}
use Rattle.std.specs.List.{range_with_len}
use Rattle.flow_defs.specs.declared.job.Job.{Job}
use Rattle.flow_defs.specs.declared.job.Exchange.TheVariants.{Forward}
use Rattle.flow_defs.specs.Limits.{stages_max, tasks_max}
use Rattle.flow_defs.specs.declared.task.ChannelId.{ChannelId}
use Rattle.flow_defs.specs.Jobs.{tasks, exchange}
use Rattle.plain_machine.specs.Worth.{concat_below}
use Rattle.local_pool.specs.declared.shares.Want.{Want}
use Rattle.record_writer.specs.Writers.{ways, sender_at}
use Rattle.job_cells.specs.declared.span.Span.{Span}
use Rattle.job_cells.specs.Grants.{partition_want, gate_want}

-- Edge e of the job leads from so many tasks to so many, by this exchange.
abbrev pub span_on : Job → ℕ → Span
span_on job e = record { edge = e; exchange = exchange job e; senders = tasks job e; receivers = tasks job (suc e) }

-- How many channels a sending task has, and how many a gate.
abbrev pub ways_out : Span → ℕ
ways_out span = ways span.exchange span.receivers

abbrev pub ways_in : Span → ℕ
ways_in span = ways span.exchange span.senders

-- It may be the span of an edge of a job.
pub record IsSpan (span : Span) : Type 0 where
  pub edge : span.edge ≤ stages_max
  pub some_send : 1 ≤ span.senders
  pub few_send : span.senders ≤ tasks_max
  pub some_receive : 1 ≤ span.receivers
  pub few_receive : span.receivers ≤ tasks_max
  pub forward : span.exchange ≡ Forward → span.senders ≡ span.receivers

-- Channel i of the gate of task b, the first channels of that gate, and those of the first gates.
abbrev pub id_at : Span → ℕ → ℕ → ChannelId
id_at span b i = record { edge = span.edge; «from» = sender_at span.exchange b i; to = b }

abbrev pub ids_into : Span → ℕ → ℕ → List ChannelId
ids_into span b i = map (id_at span b) (range_with_len 0 i)

abbrev pub ids_below : Span → ℕ → List ChannelId
ids_below span b = concat_below b (λ k. ids_into span k (ways_in span))

-- What the pools at both ends of the edge want.
abbrev pub wants_at : Span → List Want
wants_at span = replicate span.senders (partition_want (ways_out span)) ++ replicate span.receivers (gate_want (ways_in span))

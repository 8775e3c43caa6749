-- What the four loops of a connection did, each by its share and its half of a link. This is this project's own choice.
use Rattle.std.specs.Prelude.{◌≡◌, ℕ, Bool, List, Option}
use Rattle.outside.specs.Links.{IsUnfinished}
use Rattle.conn_parts.specs.declared.share.ConnShare.{ConnShare}
use Rattle.conn_parts.specs.declared.share.LoopEnd.{LoopEnd}
use Rattle.conn_parts.specs.Stopping.{ToldStop}
use Rattle.conn_send_items.specs.Sending.{MaySendItems, SendHandsBack, SendAccount}
use Rattle.conn_read_control.specs.Controlling.{MayReadControl, ControlHandsBack, ControlAccount}
use Rattle.conn_read_items.specs.Receiving.{MayReadItems, ItemsHandBack, ItemsAccount}
use Rattle.conn_send_control.specs.Announcing.{MaySendControl, AnnounceHandsBack, AnnounceAccount}
use Rattle.job_workers.specs.declared.connection.ConnLoop.{ConnLoop}
use Rattle.job_workers.specs.declared.connection.ConnLoop.TheVariants as todo
use Rattle.job_workers.specs.declared.connection.LoopLeft.{LoopLeft}
use Rattle.job_workers.specs.declared.connection.LoopLeft.TheVariants as did

module _ {O L : Type 0} (line : O → L) (sent : O → Option (List ℕ)) (faults : O → ℕ) where
  -- What the loop that sends items did, and the one that sends control frames.
  pub record SentItems (share : ConnShare) (out : O) (end : LoopEnd O) : Type 0 where
    pub back : SendHandsBack share end.passes
    pub line_is : line end.half ≡ line out
    pub account : SendAccount share.channels.now share.passes end.passes (sent out) (sent end.half) (faults out) (faults end.half) end.cause
    pub stop : ToldStop share.stop.now end.cause share.passes.stop end.passes.stop

  pub record SentControl (share : ConnShare) (out : O) (end : LoopEnd O) : Type 0 where
    pub back : AnnounceHandsBack share end.passes
    pub line_is : line end.half ≡ line out
    pub account : AnnounceAccount share.channels.now share.passes end.passes (sent out) (sent end.half) (faults out) (faults end.half) end.cause
    pub stop : ToldStop share.stop.now end.cause share.passes.stop end.passes.stop

module _ {I L : Type 0} (line : I → L) (got : I → Option (List ℕ)) (ended : I → Option Bool) (faults : I → ℕ) where
  -- What the loop that reads control frames did, and the one that reads items.
  pub record ReadControl (share : ConnShare) (input : I) (end : LoopEnd I) : Type 0 where
    pub back : ControlHandsBack share end.passes
    pub line_is : line end.half ≡ line input
    pub account : ControlAccount share end.passes (got input) (got end.half) (ended input) (ended end.half) (faults input) (faults end.half) end.cause
    pub stop : ToldStop share.stop.now end.cause share.passes.stop end.passes.stop

  pub record ReadItems (share : ConnShare) (input : I) (end : LoopEnd I) : Type 0 where
    pub back : ItemsHandBack share end.passes
    pub line_is : line end.half ≡ line input
    pub account : ItemsAccount share end.passes (got input) (got end.half) (ended input) (ended end.half) (faults input) (faults end.half) end.cause
    pub stop : ToldStop share.stop.now end.cause share.passes.stop end.passes.stop

-- A loop has passes of the cells that it enters, and a half of a link that is not finished.
abbrev pub MayRunLoop : {O I : Type 0} → (O → Option Bool) → ConnLoop O I → Type 0
MayRunLoop finished (todo.SendItems work) = MaySendItems work.share × IsUnfinished (finished work.half)
MayRunLoop finished (todo.ReadControl work) = MayReadControl work.share
MayRunLoop finished (todo.ReadItems work) = MayReadItems work.share
MayRunLoop finished (todo.SendControl work) = MaySendControl work.share × IsUnfinished (finished work.half)

-- Each leaves what it did.
abbrev pub LeftByLoop : {O I L N : Type 0} → (O → L) → (O → Option (List ℕ)) → (O → ℕ) → (I → N) → (I → Option (List ℕ)) → (I → Option Bool) → (I → ℕ) →
    ConnLoop O I → LoopLeft O I → Type 0
LeftByLoop line sent risen end got ended faults (todo.SendItems work) (did.SentItems left) = SentItems line sent risen work.share work.half left
LeftByLoop line sent risen end got ended faults (todo.ReadControl work) (did.ReadControl left) = ReadControl end got ended faults work.share work.half left
LeftByLoop line sent risen end got ended faults (todo.ReadItems work) (did.ReadItems left) = ReadItems end got ended faults work.share work.half left
LeftByLoop line sent risen end got ended faults (todo.SendControl work) (did.SentControl left) = SentControl line sent risen work.share work.half left
LeftByLoop line sent risen end got ended faults loop left = ⊥

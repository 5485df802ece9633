-- The source and the sink over memory.
use Rattle.std.specs.Prelude.{ℕ, ◌+◌, ◌-◌, ◌^◌, min, List, ◌++◌, length, drop}

-- what is left to be read, how many bytes a read gives at most, which reads fail, how many reads
-- there were, and how many of them failed
pub record SourceState : Type 0 where
  pub left : List ℕ
  pub piece : ℕ
  pub fails : List ℕ
  pub reads : ℕ
  pub faults : ℕ

-- what was written, how many more bytes there is room for, how many a write takes at most, which
-- writes fail, how many writes there were, and how many of them failed
pub record SinkState : Type 0 where
  pub written : List ℕ
  pub room : ℕ
  pub piece : ℕ
  pub fails : List ℕ
  pub writes : ℕ
  pub faults : ℕ

-- one more, up to the last value
abbrev pub counted : ℕ → ℕ
counted n = min (n + 1) (2 ^ 64 - 1)

-- a read that failed
abbrev pub failed_read : SourceState → SourceState
failed_read s = record { left = s.left; piece = s.piece; fails = s.fails; reads = counted s.reads; faults = counted s.faults }

-- a read that gave n bytes
abbrev pub gave : ℕ → SourceState → SourceState
gave n s = record { left = drop n s.left; piece = s.piece; fails = s.fails; reads = counted s.reads; faults = s.faults }

-- a write that failed
abbrev pub failed_write : SinkState → SinkState
failed_write s =
    record { written = s.written; room = s.room; piece = s.piece; fails = s.fails; writes = counted s.writes; faults = counted s.faults }

-- a write that took these bytes
abbrev pub took : List ℕ → SinkState → SinkState
took bytes s =
    record { written = s.written ++ bytes; room = s.room - length bytes; piece = s.piece; fails = s.fails; writes = counted s.writes; faults = s.faults }

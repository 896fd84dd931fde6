-- What the definitions take from std and from the crates below.
pub use Rattle.std.specs.Cmp.Lexicographic.{slice_cmp}
pub use Rattle.std.specs.List.{list_any, list_all, last_or, flat_map, range_with_len, slice_set}
pub use Rattle.std.specs.Option.{option_map, option_map_or, option_and_then}
pub use Rattle.std.specs.Ordering.{nat_cmp, is_lt}
pub use Rattle.std.specs.Str.{bytes_eq}
pub use Rattle.xid.specs.Names.{XidParts, xid_eq, xid_cmp}
pub use Rattle.xid.specs.Transactions.{tx_eq, TxParts, participants, is_participant, xid_at}
pub use Rattle.xid.specs.declared.codes.XaCode.{XaCode}
pub use Rattle.xid.specs.declared.refusals.Refusal.{Refusal}
pub use Rattle.xid.specs.declared.transaction.Vote.{Vote}
pub use Rattle.wire.specs.Grammar.{spelling}
pub use Rattle.wire.specs.Messages.{message_tx}
pub use Rattle.wire.specs.declared.message.Kind.{Kind}
pub use Rattle.wire.specs.declared.items.InstanceReport.{InstanceReport}
pub use Rattle.wire.specs.declared.items.InstanceAccept.{InstanceAccept}
pub use Rattle.wire.specs.declared.message.Kind.TheVariants.{Prepare, P1a, P1b, P2a, P2b, Commit, Abort, Ask, B1a, B1b, B2b}
pub use Rattle.wire.specs.Decoding.{spells_message}
pub use Rattle.stable_record.specs.declared.fact.Act.{Act}
pub use Rattle.stable_record.specs.declared.fact.Touched.{Touched}
pub use Rattle.stable_record.specs.declared.fact.FactKind.{FactKind as Fact}
pub use Rattle.stable_record.specs.Facts.{fact_tx}
pub use Rattle.stable_record.specs.Frames.{frame_length}
pub use Rattle.ballot.specs.Ballots.{owner_of, next_of}
pub use Rattle.ballot.specs.Choice.{Report, pick, is_prepared}
pub use Rattle.ballot.specs.Majority.{is_majority}
pub use Rattle.ballot.specs.declared.slot.Slot.{Slot}

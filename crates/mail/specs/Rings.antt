-- What a mailbox on a ring tells of its ends.
-- Source: project's choice.
use Rattle.std.specs.Prelude.{ℕ, List}
use Rattle.rtrb.specs.Ring.{sent, received, known_free, known_items, IsPair}
use Rattle.mail.specs.declared.ring_mail.RingSender.{RingSender}
use Rattle.mail.specs.declared.ring_mail.RingReceiver.{RingReceiver}
use Rattle.mail.specs.declared.ring_mail.RingClosed.{RingClosed}

module _ {T : Type 0} where
  -- what a sender has sent, in order
  abbrev pub sent_by : RingSender T → List T
  sent_by sender = sent sender.producer

  -- what a receiver has received, in order
  abbrev pub received_by : RingReceiver T → List T
  received_by receiver = received receiver.consumer

  -- from whom to whom the mailbox of a receiver goes
  abbrev pub ends_of : RingReceiver T → ℕ × ℕ
  ends_of receiver = (receiver.from, receiver.to)

  -- how many places a sender knows to be free; no one but the sender fills them
  abbrev pub room_of : RingSender T → ℕ
  room_of sender = known_free sender.producer

  -- the messages that a receiver has seen in the ring and not yet received; no one but the receiver
  -- takes them
  abbrev pub seen_by : RingReceiver T → List T
  seen_by receiver = known_items receiver.consumer

  -- the two are the ends of one ring
  abbrev pub IsJoined : RingSender T → RingReceiver T → Type 0
  IsJoined sender receiver = IsPair sender.producer receiver.consumer

  -- the closed sender and the receiver are the ends of one ring
  abbrev pub ClosesRing : RingClosed T → RingReceiver T → Type 0
  ClosesRing closed receiver = IsPair closed.producer receiver.consumer

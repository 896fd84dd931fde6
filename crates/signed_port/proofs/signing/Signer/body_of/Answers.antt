use Rattle.std.proofs.Common.{◌≡◌, ◌≢◌, ◌∙◌, ap, refl, sym, true, false}
use Rattle.signed_port.proofs.Parting.{parts_of_signed, short_is_unsigned, parts_sign, tag_of_signed, sender_of_signed}
use Rattle.signed_port.specs.Signing.{node_code}
use Rattle.signed_port.proofs.signing.Signer.body_of.Goals as goal

pub returns-in_default-clause-none : goal.returns-in_default-clause-none
returns-in_default-clause-none c =
    λ body is.
    short_is_unsigned c.args.self.now.key.block c.args.self.now.digest c.args.self.now.who body c.args.datagram.now
    c.in_default.ensures.none is

pub returns-then-is_own-clause-none : goal.returns-then-is_own-clause-none
returns-then-is_own-clause-none c =
    λ body is.
    let own : c.in-Some.code.now ≡ node_code c.args.self.now.who = c.if-is_own.ensures.0 refl in
    sender_of_signed c.args.self.now.key.block c.args.self.now.digest c.args.self.now.who c.args.self.now.who body c.args.datagram.now
    c.in-Some.body.now c.in-Some.code.now c.in-Some.tag.now c.in-Some.ensures.some own is refl

pub returns-in_default-coded-clause-none : goal.returns-in_default-coded-clause-none
returns-in_default-coded-clause-none c =
    λ body is.
    let parts = parts_of_signed c.args.self.now.key.block c.args.self.now.digest c.args.self.now.who body c.args.datagram.now
    c.in-Some.body.now c.in-Some.code.now c.in-Some.tag.now c.in-Some.ensures.some is in
    c.in_default-coded.ensures parts.sender parts.code_is

pub returns-then-is_same-clause-some : goal.returns-then-is_same-clause-some
returns-then-is_same-clause-some c =
    let other : c.in-Some-coded.sender ≢ c.args.self.now.who =
    λ same.
    let own : false ≡ true = c.if-is_own.ensures.1 (c.in-Some-coded.ensures ∙ ap node_code same) in cc in
    let tagged : c.in-Some.tag.now ≡ c.tag_of-right.result = c.if-is_same.ensures.0 refl in
    parts_sign c.args.self.now.key.block c.args.self.now.digest c.args.self.now.who c.in-Some-coded.sender c.args.datagram.now
    c.in-Some.body.now c.in-Some.code.now c.in-Some.tag.now c.in-Some.ensures.some other c.in-Some-coded.ensures
    (tagged ∙ c.tag_of-right.ensures)

pub returns-clause-none : goal.returns-clause-none
returns-clause-none c =
    λ body is.
    let right : c.in-Some.tag.now ≡ c.tag_of-right.result =
    tag_of_signed c.args.self.now.key.block c.args.self.now.digest c.args.self.now.who c.in-Some-coded.sender body
    c.args.datagram.now c.in-Some.body.now c.in-Some.code.now c.in-Some.tag.now c.in-Some.ensures.some c.in-Some-coded.ensures
    is
    ∙ sym c.tag_of-right.ensures in
    let both : false ≡ true = c.if-is_same.ensures.1 right in cc

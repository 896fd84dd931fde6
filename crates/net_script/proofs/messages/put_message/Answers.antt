use Rattle.std.proofs.Common.{◌≡◌, ◌∙◌, List, ℕ, ◌∷◌, ◌++◌, ap, subst}
use Rattle.wire.specs.declared.message.Kind.{Kind}
use Rattle.wire.specs.Messages.{message_tx}
use Rattle.net_script.specs.Basics.{TxParts, tx_text}
use Rattle.net_script.specs.Messages.{message_args, message_word}
use Rattle.net_script.specs.Traces.{spaced_words}
use Rattle.net_script.specs.Writing.{Puts}
use Rattle.net_script.proofs.TraceLemmas.{puts_after}
use Rattle.net_script.proofs.messages.put_message.Goals as goal

pub returns-clause-puts : goal.returns-clause-puts
returns-clause-puts c =
    let message : Kind = c.args.message.now in
    let tx : TxParts = message_tx message in
    let word : c.kind_word.result.now ≡ message_word message = c.kind_word.ensures tx ∙ ap message_word c.rest-rest.ensures.value in
    let args : Puts c.put.new.out.items c.put_args.new.out.items c.put_args.result (spaced_words (message_args message)) =
    subst (λ (k : Kind). Puts c.put.new.out.items c.put_args.new.out.items c.put_args.result (spaced_words (message_args k)))
    c.rest-rest.ensures.value (c.put_args.ensures.puts tx) in
    puts_after c.put_args.result c.args.out.now.items c.put_word.new.out.items c.put_args.new.out.items (32 ∷ message_word message)
    (32 ∷ tx_text tx ++ spaced_words (message_args message))
    (c.in_ok-put_word.ensures.puts ∙ ap (λ (w : List ℕ). c.args.out.now.items ++ 32 ∷ w) word)
    (puts_after c.put_args.result c.put_word.new.out.items c.put.new.out.items c.put_args.new.out.items (32 ∷ tx_text tx)
    (spaced_words (message_args message))
    (c.in_ok-put.ensures.puts ∙ ap (λ (t : TxParts). c.put_word.new.out.items ++ 32 ∷ tx_text t) c.tx.ensures.value) args)

-- What a borrowed datagram shows.
use Rattle.capture.specs.declared.udp.UdpView.{UdpView}
use Rattle.capture.specs.Udp.{UdpFields}

abbrev pub shown : UdpView → UdpFields
shown view = record { from = view.from; to = view.to; payload = view.payload.now; whole = view.whole }
